use Rattle.dayfile.proofs.Tests.{keeps, fails}
use Rattle.sound.proofs.lengths.wrong_size.Goals as goal

pub returns-then-size_right : goal.returns-then-size_right
returns-then-size_right c = keeps _ c.size_right.ensures c.if-size_right.true

pub returns-else-size_right : goal.returns-else-size_right
returns-else-size_right c = fails _ c.size_right.ensures c.if-size_right.false
