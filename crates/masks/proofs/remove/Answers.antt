-- `masks::remove` meets its contract.
use borrow.Author.Rules.{rules}
use Rattle.masks.proofs.Machine.{remove-is}
use Rattle.masks.proofs.remove.Goals as goal

pub returns : goal.returns
returns c = remove-is c.args.set c.args.i (search rules) c.requires
