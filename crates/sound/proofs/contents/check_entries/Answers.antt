use Rattle.dayfile.specs.Table.{contents_lines, line4, line5}
use Rattle.dayfile.proofs.Lines.{three-as}
use Rattle.sound.proofs.contents.check_entries.Goals as goal

pub returns : goal.returns
unfolding contents_lines line4 line5
returns c = three-as 4 c.first_of.ensures c.wrong_entry-kinds.ensures c.wrong_entry-starts.ensures c.wrong_end.ensures
