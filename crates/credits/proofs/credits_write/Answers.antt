-- `credits_write` meets its contract: the writer's, in numbers.
use Rattle.credits.proofs.Laws.{writes_as}
use Rattle.credits.proofs.credits_write.Goals as goal

pub returns : goal.returns
returns c =
    writes_as c.write.result c.day.ensures c.write.ensures c.of.ensures
