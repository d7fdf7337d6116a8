use Prim.Native.Nat.{◌-◌}
use Rattle.wants.proofs.Rows.{Served}
use Rattle.wants.proofs.serve.Given as goal

abbrev pub invariant-loop-i : goal.invariant-loop-i
invariant-loop-i l = Served l.seats l.windows l.caps l.initial.left l.i l.left l.grid

abbrev pub decreases-loop-i : goal.decreases-loop-i
decreases-loop-i l = l.seats - l.i
