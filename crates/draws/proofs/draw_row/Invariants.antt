use Rattle.std.proofs.Common.{◌-◌, ◌≤◌}
use Rattle.draws.proofs.draw_row.Given as goal

abbrev pub invariant-loop-w : goal.invariant-loop-w
invariant-loop-w l = l.w ≤ l.n

abbrev pub decreases-loop-w : goal.decreases-loop-w
decreases-loop-w l = l.n - l.w
