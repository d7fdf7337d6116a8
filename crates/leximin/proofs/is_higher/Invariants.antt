use Prim.Native.Nat.{◌-◌}
use Rattle.leximin.specs.Levels.{level_at}
use Rattle.leximin.proofs.Orders.{Even}
use Rattle.leximin.proofs.is_higher.Given as goal

abbrev pub invariant-loop-i : goal.invariant-loop-i
invariant-loop-i l = Even l.i (level_at l.first) (level_at l.second)

abbrev pub decreases-loop-i : goal.decreases-loop-i
decreases-loop-i l = l.n - l.i
