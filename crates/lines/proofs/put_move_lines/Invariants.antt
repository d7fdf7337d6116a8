use Rattle.text.specs.Printing.{Prints}
use Rattle.lines.specs.Lines.{lines, move_at}
use Rattle.lines.proofs.put_move_lines.Given as goal

abbrev pub invariant-loop-window : goal.invariant-loop-window
invariant-loop-window l = Prints l.initial.to (lines l.window-index (move_at l.fn.moves)) l.to
