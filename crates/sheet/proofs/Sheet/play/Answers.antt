-- `sheet::Sheet::play` meets its contract.
use native.Mathlib.Omega.{arith}
use Rattle.sheet.specs.Sheets.{move_of}
use Rattle.sheet.proofs.Moves.{taker-le, play-is}
use Rattle.sheet.proofs.Shapes.{shaped}
use Rattle.sheet.proofs.Sheet.play.Goals as goal

pub overflow_add-to : goal.overflow_add-to
overflow_add-to c =
    let s = c.args.self in
    omega (arith, taker-le s (shaped s _ c.well_formed.0).shape (move_of c.args.m) c.requires, c.requires)

pub returns : goal.returns
returns c =
    let s = c.args.self in
    play-is s (shaped s _ c.well_formed.0).shape (move_of c.args.m) c.requires
