use mathlib.Core.List.{List, []}
use mathlib.Core.Path.{◌≡◌}
use Prim.Native.Nat.{ℕ, ◌+◌, ◌-◌, ◌*◌}
use Rattle.lists.proofs.Arrays.{Filled, Least}
use Rattle.sheet.specs.Sheets.{grid_of}
use Rattle.dayfile.specs.Layout.{fields_at}
use Rattle.dayfile.specs.Memory.{sized}
use Rattle.fields.proofs.arrays.grid.Given as goal

abbrev pub row_of : List ℕ → ℕ → ℕ → ℕ → List ℕ
row_of f at m i = fields_at f (at + 2 * (i * m)) m

abbrev pub invariant-loop-i : goal.invariant-loop-i
invariant-loop-i l =
    Filled (λ k (x : List ℕ). x ≡ sized 24 (row_of l.file l.at l.m k)) [] 32 l.rows (grid_of l.initial.sheet) l.i (grid_of l.sheet)
    × Least l.n 32 l.rows

abbrev pub decreases-loop-i : goal.decreases-loop-i
decreases-loop-i l = l.rows - l.i
