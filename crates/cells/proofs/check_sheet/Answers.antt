-- `cells::check_sheet` meets its contract: the three lines as they were looked up.
use Rattle.dayfile.specs.Table.{marker_lines}
use Rattle.dayfile.proofs.Lines.{three-as}
use Rattle.cells.proofs.check_sheet.Goals as goal

pub returns : goal.returns
unfolding marker_lines
returns c =
    three-as 13 c.first_of.ensures c.no_sheet.ensures c.cell_above.ensures c.window_over.ensures
