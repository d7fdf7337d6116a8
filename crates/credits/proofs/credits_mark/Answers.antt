-- `credits_mark` meets its contract: the marker's, in numbers.
use Rattle.credits.proofs.Laws.{small}
use Rattle.credits.proofs.credits_mark.Goals as goal

pub of-requires : goal.of-requires
of-requires c = small _ _ _ c.mark.result c.mark.ensures
