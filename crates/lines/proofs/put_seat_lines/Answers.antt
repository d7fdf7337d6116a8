use Rattle.std.proofs.Common.{rules}
use Rattle.lines.specs.Lines.{seat_lines}
use Rattle.lines.proofs.Growing.{lines_none, lines_room}
use Rattle.lines.proofs.put_seat_lines.Goals as goal

pub loop-seat-init : goal.loop-seat-init
loop-seat-init c = lines_none _

pub put_seat_line-requires-clause-room : goal.put_seat_line-requires-clause-room
unfolding seat_lines
put_seat_line-requires-clause-room c = lines_room _ _ _ (search rules) c.requires.room c.loop-seat.invariant
