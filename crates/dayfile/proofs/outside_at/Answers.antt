use Rattle.dayfile.proofs.Tests.{keeps, fails}
use Rattle.dayfile.proofs.outside_at.Goals as goal

pub returns-then-within : goal.returns-then-within
returns-then-within c = keeps _ c.within.ensures c.if-within.true

pub returns-else-within : goal.returns-else-within
returns-else-within c = fails _ c.within.ensures c.if-within.false
