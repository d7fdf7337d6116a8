use Prim.Native.Nat.{min, ◌-◌}
use lib.ListN.{get_or}
use Rattle.sheet.proofs.Sums.{Summed}
use Rattle.wants.proofs.alone_total.Given as goal

abbrev pub invariant-loop-w : goal.invariant-loop-w
invariant-loop-w l = Summed (λ j. min (get_or l.supplies j 0) (get_or l.row j 0)) l.windows l.w l.total

abbrev pub decreases-loop-w : goal.decreases-loop-w
decreases-loop-w l = l.windows - l.w
