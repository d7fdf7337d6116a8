use Prim.Native.Nat.{◌-◌, ◌≤◌, ◌<◌}
use lib.ListN.{get_or}
use Rattle.reach.specs.Graphs.{Collects}
use Rattle.exchange.proofs.below.Given as goal

abbrev pub invariant-loop-w : goal.invariant-loop-w
invariant-loop-w l = (l.w ≤ l.windows) × Collects l.w (λ u. get_or l.a u 0 < get_or l.b u 0) l.set

abbrev pub decreases-loop-w : goal.decreases-loop-w
decreases-loop-w l = l.windows - l.w
