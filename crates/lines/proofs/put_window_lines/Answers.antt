use Rattle.std.proofs.Common.{rules}
use Rattle.lines.specs.Lines.{window_lines}
use Rattle.lines.proofs.Growing.{lines_none, lines_room}
use Rattle.lines.proofs.put_window_lines.Goals as goal

pub loop-window-init : goal.loop-window-init
loop-window-init c = lines_none _

pub put_window_line-requires-clause-room : goal.put_window_line-requires-clause-room
unfolding window_lines
put_window_line-requires-clause-room c = lines_room _ _ _ (search rules) c.requires.room c.loop-window.invariant
