-- `listing::put_result_lines` meets its contract.
use Rattle.text.proofs.Printing.{room-first, room_next, prints_next}
use Rattle.answers.specs.Answers.{result_in}
use Rattle.lines.proofs.Fronts.{moves_front}
use Rattle.listing.specs.Listing.{result_lines}
use Rattle.listing.proofs.Results.{result-left, result-moves}
use Rattle.listing.proofs.put_result_lines.Goals as goal

pub put_last_field-requires : goal.put_last_field-requires
unfolding result_lines
put_last_field-requires c = rw c.from.ensures (room-first _ _ c.requires.room)

pub put_left_line-requires : goal.put_left_line-requires
put_left_line-requires c =
    room_next _ _ (rw (result-left (result_in c.args.res) c.args.moves.now c.if-res-eq1.true) at c.requires.room)
    (rw c.from.ensures at c.put_last_field.ensures)

pub returns-then-res-eq1 : goal.returns-then-res-eq1
returns-then-res-eq1 c =
    rw (result-left (result_in c.args.res) c.args.moves.now c.if-res-eq1.true)
    (prints_next _ _ (rw c.from.ensures at c.put_last_field.ensures) c.put_left_line.ensures)

pub put_move_lines-requires : goal.put_move_lines-requires
put_move_lines-requires c =
    rw (moves_front c.args.res.moves _ c.requires.moves_in_bounds)
    (room_next _ _ (rw (result-moves (result_in c.args.res) c.args.moves.now c.if-res-eq1.false) at c.requires.room)
    (rw c.from.ensures at c.put_last_field.ensures))

pub returns-else-res-eq1 : goal.returns-else-res-eq1
returns-else-res-eq1 c =
    rw (result-moves (result_in c.args.res) c.args.moves.now c.if-res-eq1.false)
    (prints_next _ _ (rw c.from.ensures at c.put_last_field.ensures)
    (rw (moves_front c.args.res.moves _ c.requires.moves_in_bounds) at c.put_move_lines.ensures))
