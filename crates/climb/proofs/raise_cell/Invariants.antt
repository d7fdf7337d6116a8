use Prim.Native.Nat.{◌-◌}
use Rattle.model.specs.Book.{cell}
use Rattle.instance.specs.Terms.{instance_in}
use Rattle.climb.specs.Cycles.{Climbed}
use Rattle.climb.proofs.raise_cell.Given as goal

abbrev pub invariant-loop-cycle : goal.invariant-loop-cycle
invariant-loop-cycle l = Climbed (instance_in l.t l.caps) (cell l.grid) l.place.seat l.place.window

abbrev pub decreases-loop-cycle : goal.decreases-loop-cycle
decreases-loop-cycle l = cell l.caps l.place.seat l.place.window - cell l.grid l.place.seat l.place.window
