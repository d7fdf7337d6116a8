use Rattle.dayfile.specs.Table.{line11}
use Rattle.dayfile.proofs.Search.{outside-as}
use Rattle.values.proofs.supply_outside.Goals as goal

pub returns : goal.returns
unfolding line11
returns c =
    outside-as _ 0 4095 c.outside.ensures c.start.ensures.0 c.windows.ensures.0
