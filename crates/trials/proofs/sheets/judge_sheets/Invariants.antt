use Rattle.std.proofs.Common.{◌-◌, ◌≤◌}
use Rattle.trials.proofs.sheets.judge_sheets.Given as goal

abbrev pub invariant-loop : goal.invariant-loop
invariant-loop l = l.counter ≤ 16777216

abbrev pub decreases-loop : goal.decreases-loop
decreases-loop l = 16777216 - l.counter
