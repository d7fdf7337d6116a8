use Prim.Native.Nat.{◌-◌, ◌≤◌}
use Rattle.model.specs.Book.{cell}
use Rattle.instance.specs.Terms.{instance_in}
use Rattle.climb.specs.Cycles.{Climbed}
use Rattle.climb.proofs.climb.Given as goal

abbrev pub invariant-loop-seat : goal.invariant-loop-seat
invariant-loop-seat l = (l.seat ≤ l.t.seats) × Climbed (instance_in l.t l.caps) (cell l.grid) l.seat 0

abbrev pub decreases-loop-seat : goal.decreases-loop-seat
decreases-loop-seat l = l.t.seats - l.seat
