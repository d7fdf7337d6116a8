use Rattle.std.proofs.Common.{◌-◌, ◌≤◌}
use Rattle.oracle.proofs.wanted.some_group.Given as goal

abbrev pub invariant-loop-group : goal.invariant-loop-group
invariant-loop-group l = l.group ≤ 16

abbrev pub decreases-loop-group : goal.decreases-loop-group
decreases-loop-group l = 16 - l.group
