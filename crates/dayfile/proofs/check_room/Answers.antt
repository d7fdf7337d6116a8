-- `dayfile::check_room` meets its contract: line 16 by cases.
use mathlib.Core.Path.{sym}
use Rattle.dayfile.proofs.Lines.{room-short, room-enough}
use Rattle.dayfile.proofs.check_room.Goals as goal

pub returns-then-room-need : goal.returns-then-room-need
returns-then-room-need c = sym (room-short _ _ c.if-room-need.true)

pub returns : goal.returns
returns c = sym (room-enough _ _ c.if-room-need.false)
