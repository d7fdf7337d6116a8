-- `masks::insert` meets its contract.
use Rattle.masks.proofs.Machine.{insert-is}
use Rattle.masks.proofs.insert.Goals as goal

pub returns : goal.returns
returns c = insert-is c.args.set c.args.i c.requires
