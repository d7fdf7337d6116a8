use Rattle.std.proofs.Common.{mod-lt}
use Rattle.draws.proofs.below.Goals as goal

pub returns : goal.returns
returns c = mod-lt _ c.requires
