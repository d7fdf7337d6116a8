use Rattle.std.proofs.Common.{◌-◌, ◌≤◌}
use Rattle.draws.proofs.small.with_caps.Given as goal

abbrev pub invariant-loop-i : goal.invariant-loop-i
invariant-loop-i l = l.i ≤ l.seats

abbrev pub decreases-loop-i : goal.decreases-loop-i
decreases-loop-i l = l.seats - l.i
