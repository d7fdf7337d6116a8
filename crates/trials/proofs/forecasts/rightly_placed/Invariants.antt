use Rattle.std.proofs.Common.{◌-◌, ◌≤◌}
use Rattle.trials.proofs.forecasts.rightly_placed.Given as goal

abbrev pub invariant-loop-w : goal.invariant-loop-w
invariant-loop-w l = l.w ≤ 24

abbrev pub decreases-loop-w : goal.decreases-loop-w
decreases-loop-w l = 24 - l.w
