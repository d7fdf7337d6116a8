-- `lines::put_move_lines` meets its contract.
use Rattle.std.proofs.Common.{rules, ◌<◌, ◌/◌, length}
use Rattle.lines.specs.Lines.{move_lines}
use Rattle.lines.proofs.Growing.{lines_none, lines_room, lines_more}
use Rattle.lines.proofs.Moves.{move_of_chunk}
use Rattle.lines.proofs.put_move_lines.Goals as goal

pub loop-window-init : goal.loop-window-init
loop-window-init c = lines_none _

pub put_move_line-requires : goal.put_move_line-requires
unfolding move_lines
put_move_line-requires c =
    let inside : c.loop-window.window-index < length c.args.moves.now / 3 = search rules in
    rw (c.as_chunks.ensures.front, move_of_chunk _ _ _ inside) (lines_room _ _ _ inside c.requires c.loop-window.invariant)

pub loop-window-preserved : goal.loop-window-preserved
loop-window-preserved c =
    let inside : c.loop-window.window-index < length c.args.moves.now / 3 = search rules in
    let line = rw (c.as_chunks.ensures.front, move_of_chunk _ _ _ inside) at c.put_move_line.ensures in
    lines_more _ _ c.loop-window.invariant line
