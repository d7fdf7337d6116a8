use Rattle.std.proofs.Common.{◌<◌}
use Rattle.fill.proofs.paths.bottleneck.Given as goal

abbrev pub invariant-loop : goal.invariant-loop
invariant-loop g l = l.giver < 32
