use mathlib.Core.List.{List, []}
use Rattle.std.specs.Prelude.{Option, Some}
use mathlib.Core.Path.{◌∙◌, ap, sym}
use Prim.Native.Nat.{ℕ}
use Rattle.model.specs.Lowest.{and_then, value_or}
use Rattle.model.specs.Book.{Grid}
use Rattle.dayfile.specs.Layout.{grid_in}
use Rattle.dayfile.specs.Memory.{found, held}
use Rattle.dayfile.specs.declared.Found.{Found}
use Rattle.dayfile.proofs.Answers.{under_at}
use Rattle.reader.proofs.day.sheet_of.Goals as goal

-- the sheet by its entry
abbrev sheet_by : List ℕ → Option ℕ → Grid
sheet_by f o = held (value_or (and_then o (λ e. Some (grid_in f e))) [])

pub grid_of-requires : goal.grid_of-requires
grid_of-requires c = under_at 65536 c.requires c.in-At.is

pub returns-in-At : goal.returns-in-At
returns-in-At c =
    let f = c.args.file.now in
    c.grid_of.ensures ∙ ap (λ (x : Found). sheet_by f (found x)) (sym c.in-At.is)

pub returns : goal.returns
returns c =
    let f = c.args.file.now in
    c.no_grid.ensures ∙ ap (λ (x : Found). sheet_by f (found x)) (sym c.in_default.is)
