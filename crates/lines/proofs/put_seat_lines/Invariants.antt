use Rattle.text.specs.Printing.{Prints}
use Rattle.lines.specs.Lines.{lines, seat_at}
use Rattle.lines.proofs.put_seat_lines.Given as goal

abbrev pub invariant-loop-seat : goal.invariant-loop-seat
invariant-loop-seat l = Prints l.initial.to (lines l.seat (seat_at l.classes l.totals)) l.to
