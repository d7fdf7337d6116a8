use Rattle.std.proofs.Common.{◌<◌}
use Rattle.fill.specs.Fills.{Keeps}
use Rattle.fill.proofs.paths.push.Given as goal

abbrev pub invariant-loop : goal.invariant-loop
invariant-loop g l = (l.giver < 32) × Keeps l.size.seats l.size.windows l.caps l.initial.grid l.grid
