-- Two of paper 01's books, by the definitions: K8, where supplies are the lesser, and K10, where the cap is.
use mathlib.Core.List.{List, [], ◌∷◌}
use Rattle.std.specs.Prelude.{None}
use mathlib.Core.Path.{◌≡◌, refl}
use Prim.Native.Nat.{ℕ}
use lib.ListN.{replicate}
use Rattle.fairness.specs.Sums.{sum}
use Rattle.fairness.specs.Leximin.{table}
use Rattle.model.specs.Book.{Book, Grid}
use Rattle.dayfile.specs.File.{bytes_of, contents, bodies, fields_of, assemble, flat, opt_part, opt_parts, parts_of, file_of}
use Rattle.dayfile.specs.Memory.{sized}
use Rattle.dayfile.specs.Table.{planned_length}
use Rattle.forecast.specs.Forecasting.{figures_of}

abbrev book : List ℕ → List ℕ → Grid → Book
book classes supplies caps =
    record { classes = classes; supplies = supplies; caps = caps; first = None; balances = None; weights = None }

abbrev k8 : Book
k8 = book (1 ∷ 1 ∷ 1 ∷ []) (1 ∷ 3 ∷ []) ((1 ∷ 0 ∷ []) ∷ (1 ∷ 2 ∷ []) ∷ (0 ∷ 3 ∷ []) ∷ [])

abbrev k10 : Book
k10 = book (1 ∷ []) (3 ∷ []) ((2 ∷ []) ∷ [])

pub k8-figures : figures_of k8 ≡ record { length = 60; placed = 1 ∷ 3 ∷ replicate 22 0 }
unfolding figures_of planned_length file_of assemble fields_of parts_of opt_parts opt_part contents bodies bytes_of flat sized table sum
k8-figures = refl

pub k10-figures : figures_of k10 ≡ record { length = 34; placed = 2 ∷ replicate 23 0 }
unfolding figures_of planned_length file_of assemble fields_of parts_of opt_parts opt_part contents bodies bytes_of flat sized table sum
k10-figures = refl
