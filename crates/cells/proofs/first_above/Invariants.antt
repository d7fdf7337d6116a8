use mathlib.Core.Bool.{Bool}
use mathlib.Core.List.{List}
use Prim.Native.Nat.{ℕ, ◌+◌, ◌-◌, ◌*◌}
use lib.Dec.{ltb}
use Rattle.dayfile.specs.Layout.{field}
use Rattle.dayfile.proofs.Search.{Searching}
use Rattle.cells.proofs.first_above.Given as goal

abbrev pub above : List ℕ → ℕ → ℕ → ℕ → Bool
above f at most i = ltb (field f (most + 2 * i)) (field f (at + 2 * i))

abbrev pub invariant-loop-i : goal.invariant-loop-i
invariant-loop-i l = Searching (above l.file l.at l.most) l.n l.n l.i

abbrev pub decreases-loop-i : goal.decreases-loop-i
decreases-loop-i l = l.n - l.i
