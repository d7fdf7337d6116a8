use Rattle.std.proofs.Common.{◌-◌, ◌≤◌}
use Rattle.trials.proofs.forecasts.together.Given as goal

abbrev pub invariant-loop : goal.invariant-loop
invariant-loop l = 0 ≤ l.counter

abbrev pub decreases-loop : goal.decreases-loop
decreases-loop l = l.n - l.counter
