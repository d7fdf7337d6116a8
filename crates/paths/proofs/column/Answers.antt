-- `paths::column` meets its contract.
use Rattle.reach.proofs.Collect.{collect-first}
use Rattle.paths.proofs.column.Goals as goal

pub loop-i-init : goal.loop-i-init
loop-i-init c = collect-first _
