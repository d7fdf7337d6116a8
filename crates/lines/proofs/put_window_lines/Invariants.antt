use Rattle.text.specs.Printing.{Prints}
use Rattle.lines.specs.Lines.{lines, window_at}
use Rattle.lines.proofs.put_window_lines.Given as goal

abbrev pub invariant-loop-window : goal.invariant-loop-window
invariant-loop-window l = Prints l.initial.to (lines l.window (window_at l.supplies l.placed)) l.to
