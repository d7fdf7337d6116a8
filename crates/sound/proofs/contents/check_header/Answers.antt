use Rattle.dayfile.specs.Table.{contents_lines}
use Rattle.dayfile.proofs.Lines.{three-as}
use Rattle.sound.proofs.contents.check_header.Goals as goal

pub returns : goal.returns
unfolding contents_lines
returns c = three-as 1 c.first_of.ensures c.too_short.ensures c.wrong_count.ensures c.contents_cut.ensures
