use Rattle.text.proofs.Printing.{printing}
use Rattle.lines.specs.Lines.{move_line}
use Rattle.lines.proofs.line.put_move_line.Goals as goal

pub put_last_field-requires : goal.put_last_field-requires
unfolding move_line
put_last_field-requires c = search printing

pub returns : goal.returns
unfolding move_line
returns c = search printing
