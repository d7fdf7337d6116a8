use Rattle.std.proofs.Common.{◌-◌, ◌≤◌}
use Rattle.trials.proofs.pairs.entry_in.Given as goal

abbrev pub invariant-loop-e : goal.invariant-loop-e
invariant-loop-e l = l.e ≤ 7

abbrev pub decreases-loop-e : goal.decreases-loop-e
decreases-loop-e l = 7 - l.e
