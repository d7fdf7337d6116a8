-- `fill::fill_window` meets its contract. Each turn fills one seat.
use Rattle.std.proofs.Common.{ap, ◌∙◌, min, arith}
use Rattle.fill.proofs.Filling.{next, last}
use Rattle.fill.proofs.fill_window.Goals as goal

pub loop-i-preserved : goal.loop-i-preserved
loop-i-preserved c =
    let l = c.loop-i in
    let a = c.args in
    let e = c.min-more.ensures ∙ ap (min l.left) c.room.ensures.0 in
    next a.seats a.window a.caps.now a.supply a.grid.now l.i l.left c.min-more.result l.grid l.invariant
    (omega arith) (omega arith) (omega arith) e

pub returns : goal.returns
returns c = last _ _ _ _ _ c.loop-i.i c.loop-i.left _ c.loop-i.invariant (omega arith)
