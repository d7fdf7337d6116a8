use Rattle.dayfile.specs.Table.{line10}
use Rattle.dayfile.proofs.Search.{outside-as}
use Rattle.values.proofs.class_outside.Goals as goal

pub returns : goal.returns
unfolding line10
returns c =
    outside-as _ 1 8 c.outside.ensures c.start.ensures.0 c.seats.ensures.0
