use Rattle.text.proofs.Printing.{printing}
use Rattle.lines.specs.Lines.{left_line}
use Rattle.lines.proofs.line.put_left_line.Goals as goal

pub returns : goal.returns
unfolding left_line
returns c = search printing
