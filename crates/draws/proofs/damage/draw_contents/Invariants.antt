use Rattle.std.proofs.Common.{◌≡◌, ◌+◌, ◌-◌, ◌*◌, ◌≤◌, length}
use Rattle.draws.proofs.damage.draw_contents.Given as goal

abbrev pub invariant-loop-e : goal.invariant-loop-e
invariant-loop-e l = (l.e ≤ l.entries) × (l.end ≤ 2 + 6 * l.entries + 5 * l.e) × (length l.file ≡ length l.initial.file)

abbrev pub decreases-loop-e : goal.decreases-loop-e
decreases-loop-e l = l.entries - l.e
