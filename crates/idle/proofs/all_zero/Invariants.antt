use mathlib.Core.Bool.{Bool, not}
use mathlib.Core.List.{List}
use Prim.Native.Nat.{ℕ, ◌-◌}
use lib.Dec.{eqb}
use lib.ListN.{get_or}
use Rattle.dayfile.proofs.Search.{Searching}
use Rattle.idle.proofs.all_zero.Given as goal

abbrev pub used : List ℕ → ℕ → Bool
used row j = not (eqb (get_or row j 0) 0)

abbrev pub invariant-loop-w : goal.invariant-loop-w
invariant-loop-w l = Searching (used l.row) l.windows l.windows l.w

abbrev pub decreases-loop-w : goal.decreases-loop-w
decreases-loop-w l = l.windows - l.w
