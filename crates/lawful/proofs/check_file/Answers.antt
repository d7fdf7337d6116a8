-- `lawful::check_file` meets its contract: the lines without the buffer's, and that of the buffer.
use mathlib.Core.Path.{sym, ◌∙◌}
use Rattle.dayfile.specs.Table.{sheet_lines, mark_lines}
use Rattle.dayfile.proofs.Lines.{stop-in, on-after}
use Rattle.dayfile.proofs.Answers.{refuses, passes}
use Rattle.lawful.proofs.check_file.Goals as goal

pub returns-in-Refused : goal.returns-in-Refused
unfolding mark_lines
returns-in-Refused c =
    sym (stop-in (sheet_lines _) _ _ (refuses c.check_lawful.ensures c.in-Refused.is))

pub returns : goal.returns
unfolding mark_lines
returns c =
    c.check_room.ensures
    ∙ sym (on-after (sheet_lines _) _ (passes c.check_lawful.ensures c.in_default.is))
