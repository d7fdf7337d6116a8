-- `output::take_input` meets its contract: the buffer is full, or the reader gave all that it had.
use Rattle.std.proofs.Common.{rules}
use Rattle.output.proofs.Writes.{taken-told}
use Rattle.output.proofs.take_input.Goals as goal

pub returns-clause-taken : goal.returns-clause-taken
returns-clause-taken g c =
    let told = c.read_front.ensures in
    taken-told 65536 _ _ _ _ (search rules) told.within told.bytes told.end
