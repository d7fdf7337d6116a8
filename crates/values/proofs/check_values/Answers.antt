use Rattle.dayfile.specs.Table.{value_lines}
use Rattle.dayfile.proofs.Lines.{three-as}
use Rattle.values.proofs.check_values.Goals as goal

pub returns : goal.returns
unfolding value_lines
returns c = three-as 10 c.first_of.ensures c.class_outside.ensures c.supply_outside.ensures c.cap_outside.ensures
