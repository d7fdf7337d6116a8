use Prim.Native.Nat.{◌-◌}
use lib.ListN.{get_or}
use Rattle.sheet.proofs.Sums.{Summed}
use Rattle.sheet.proofs.row_total.Given as goal

abbrev pub invariant-loop-w : goal.invariant-loop-w
invariant-loop-w l = Summed (λ j. get_or l.row j 0) l.windows l.w l.total

abbrev pub decreases-loop-w : goal.decreases-loop-w
decreases-loop-w l = l.windows - l.w
