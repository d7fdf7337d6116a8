use Prim.Native.Nat.{◌-◌, ◌≤◌}
use Rattle.climb.proofs.Later.{DrawnTo}
use Rattle.climb.proofs.later_graph.Given as goal

abbrev pub invariant-loop-p : goal.invariant-loop-p
invariant-loop-p l =
    (l.p ≤ l.seats) × DrawnTo l.t l.caps l.grid l.seat l.window l.p l.rooms l.holders

abbrev pub decreases-loop-p : goal.decreases-loop-p
decreases-loop-p l = l.seats - l.p
