use Prim.Native.Nat.{◌-◌}
use Rattle.wants.proofs.Aiming.{Known}
use Rattle.wants.proofs.aim.Given as goal

abbrev pub invariant-loop-i : goal.invariant-loop-i
invariant-loop-i l = Known l.t l.wants l.initial.bases l.initial.positions l.i l.bases l.positions

abbrev pub decreases-loop-i : goal.decreases-loop-i
decreases-loop-i l = l.seats - l.i
