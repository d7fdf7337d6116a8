use mathlib.Core.Path.{◌≡◌}
use Prim.Native.Nat.{◌+◌, ◌-◌}
use lib.ListN.{get_or}
use Rattle.lists.proofs.Arrays.{Filled}
use Rattle.wants.proofs.less_row.Given as goal

abbrev pub invariant-loop-w : goal.invariant-loop-w
invariant-loop-w l = Filled (λ k x. x + get_or l.row k 0 ≡ get_or l.initial.left k 0) 0 24 l.windows l.initial.left l.w l.left

abbrev pub decreases-loop-w : goal.decreases-loop-w
decreases-loop-w l = l.windows - l.w
