-- `fulfil::wrong_row` meets its contract.
use Rattle.fulfil.proofs.Replies.{row-right, row-wrong}
use Rattle.fulfil.proofs.wrong_row.Goals as goal

pub returns-then-row-seats : goal.returns-then-row-seats
returns-then-row-seats c = row-right _ _ _ c.seats.ensures.0 c.if-row-seats.true

pub returns-else-row-seats : goal.returns-else-row-seats
returns-else-row-seats c = row-wrong _ _ _ c.seats.ensures.0 c.if-row-seats.false
