use mathlib.Core.Bool.{Bool}
use mathlib.Core.List.{List}
use Prim.Native.Nat.{ℕ, ◌-◌}
use lib.Dec.{ltb}
use Rattle.dayfile.specs.Layout.{field, windows_in}
use Rattle.dayfile.specs.Table.{cell_at, placed_in}
use Rattle.dayfile.proofs.Search.{Searching}
use Rattle.cells.proofs.first_over.Given as goal

abbrev pub over : List ℕ → ℕ → ℕ → Bool
over f e j = ltb (field f (cell_at f 1 j)) (placed_in f e j)

abbrev pub invariant-loop-j : goal.invariant-loop-j
invariant-loop-j l = Searching (over l.file l.e) (windows_in l.file) l.m l.j

abbrev pub decreases-loop-j : goal.decreases-loop-j
decreases-loop-j l = l.m - l.j
