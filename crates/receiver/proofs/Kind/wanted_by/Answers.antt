-- `receiver::Kind::wanted_by` meets its contract.
use Rattle.reach.proofs.Collect.{collect-first}
use Rattle.receiver.proofs.Kind.wanted_by.Goals as goal

pub loop-l-init : goal.loop-l-init
loop-l-init c = collect-first _
