use Rattle.std.proofs.Common.{◌<◌}
use Rattle.raise.proofs.links.Links.search.Given as goal

abbrev pub invariant-loop : goal.invariant-loop
invariant-loop l = (l.window < 32) × (l.taker < 32)
