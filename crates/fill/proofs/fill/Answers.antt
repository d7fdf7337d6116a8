-- `fill::fill` meets its contract. Each turn fills one window.
use Rattle.std.proofs.Common.{arith}
use Rattle.fill.proofs.Feasible.{feasible-at}
use Rattle.fill.proofs.Filling.{next-feasible, filled_more}
use Rattle.fill.proofs.fill.Goals as goal

pub loop-w-preserved : goal.loop-w-preserved
loop-w-preserved c = filled_more _ _ _ _ c.loop-w.w c.loop-w.grid c.loop-w.invariant _ c.fill_window.ensures

pub fill_window-requires-clause-feasible_at : goal.fill_window-requires-clause-feasible_at
fill_window-requires-clause-feasible_at c =
    let a = c.args in
    let w = c.loop-w.w in
    let here = feasible-at a.t a.caps.now a.grid.now c.requires.feasible w (omega arith) in
    next-feasible a.t.seats a.caps.now a.t.supplies a.grid.now w c.loop-w.grid c.loop-w.invariant here
