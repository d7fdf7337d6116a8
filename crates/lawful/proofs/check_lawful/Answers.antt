-- `lawful::check_lawful` meets its contract: the reader's lines, then a look at the sheet in memory, then its lines.
use mathlib.Core.Path.{sym, ◌∙◌}
use Rattle.dayfile.specs.Table.{read_lines, sheet_lines}
use Rattle.dayfile.proofs.Lines.{stop-in, on-after}
use Rattle.dayfile.proofs.Readings.{read-refused, read-sound}
use Rattle.lawful.proofs.Lawfulness.{in-range, none-lawful}
use Rattle.lawful.proofs.check_lawful.Goals as goal

pub returns-in-Refused : goal.returns-in-Refused
unfolding sheet_lines
returns-in-Refused c =
    sym (stop-in (read_lines _) _ _ (read-refused _ _ c.requires c.in-Refused.is))

pub returns-then-is_lawful : goal.returns-then-is_lawful
returns-then-is_lawful c =
    let lawful = c.is_lawful.ensures c.if-is_lawful.true in
    sym (none-lawful _ _ c.requires c.in_default.is lawful.0 lawful.1)

pub returns : goal.returns
unfolding sheet_lines
returns c =
    c.check_sheet.ensures
    ∙ sym (on-after (read_lines _) _ (read-sound _ _ c.requires c.in_default.is))

pub is_lawful-requires : goal.is_lawful-requires
is_lawful-requires c = in-range _ _ c.requires c.in_default.is
