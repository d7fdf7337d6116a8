-- `fulfil::check_lent` meets its contract: line 21, then line 16.
use Rattle.dayfile.proofs.Answers.{at-line, no_line}
use Rattle.fulfil.proofs.Replies.{lent_row, lent-buffer}
use Rattle.fulfil.proofs.check_lent.Goals as goal

pub returns-in-At : goal.returns-in-At
returns-in-At c = lent_row _ _ _ _ (at-line c.wrong_row.ensures c.in-At.is)

pub returns : goal.returns
returns c =
    lent-buffer _ _ _ (no_line c.wrong_row.ensures c.in_default.is) _ c.body_length.ensures
    c.check_room.ensures
