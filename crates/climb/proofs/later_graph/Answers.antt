-- `climb::later_graph` meets its contract. Each turn draws one seat.
use borrow.Author.Rules.{rules}
use mathlib.Core.Path.{◌≡◌}
use native.Mathlib.Omega.{arith}
use Rattle.climb.proofs.Later.{first, next, last}
use Rattle.climb.proofs.later_graph.Goals as goal

pub loop-p-init : goal.loop-p-init
loop-p-init c =
    let a = c.args in
    let own = first a.t a.caps.now a.grid.now a.place.seat a.place.window _ c.insert.ensures in
    (search rules, own c.requires.seat_lt_seats.1 (search rules))

pub loop-p-preserved : goal.loop-p-preserved
loop-p-preserved c =
    let a = c.args in
    let drawn = next a.t a.caps.now a.grid.now a.place.seat a.place.window _ _ _ c.loop-p.invariant.1 in
    (search rules, drawn (search rules) _ c.below.ensures _ (search rules) c.with_holder-more.ensures)

pub returns : goal.returns
returns c =
    let a = c.args in
    let e : c.loop-p.p ≡ a.t.seats = omega arith in
    last a.t a.caps.now a.grid.now a.place.seat a.place.window _ _ _ c.loop-p.invariant.1 e
