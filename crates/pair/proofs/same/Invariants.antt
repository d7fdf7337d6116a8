use Prim.Native.Nat.{◌-◌}
use Rattle.pair.specs.Same.{SameUpTo}
use Rattle.pair.proofs.same.Given as goal

abbrev pub invariant-loop-i : goal.invariant-loop-i
invariant-loop-i l = SameUpTo l.i l.a l.b

abbrev pub decreases-loop-i : goal.decreases-loop-i
decreases-loop-i l = l.n - l.i
