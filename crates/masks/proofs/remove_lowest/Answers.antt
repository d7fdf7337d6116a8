-- `masks::remove_lowest` meets its contract.
use Rattle.masks.proofs.Machine.{drop-lowest}
use Rattle.masks.proofs.remove_lowest.Goals as goal

pub returns : goal.returns
returns c = λ k l. drop-lowest k c.args.set l.here l.least
