-- `climb::find_cycle` meets its contract.
use native.Mathlib.Omega.{arith}
use Prim.Native.Nat.{◌<◌}
use Rattle.fairness.proofs.Standard.{capped-topmost}
use Rattle.model.specs.Book.{cell}
use Rattle.instance.specs.Terms.{instance_in}
use Rattle.instance.proofs.Told.{small-proper}
use Rattle.climb.proofs.Searching.{finds}
use Rattle.climb.proofs.find_cycle.Goals as goal

pub returns-then-caps-seat : goal.returns-then-caps-seat
returns-then-caps-seat c =
    let a = c.args in
    let place = c.requires.seat_lt_seats in
    capped-topmost (instance_in a.t a.caps.now) (small-proper _ _ c.requires.small) (cell a.grid.now) c.requires.settled _ _ place.0 place.1
    c.if-caps-seat.true

pub returns : goal.returns
returns c =
    let a = c.args in
    let place = c.requires.seat_lt_seats in
    let ranged = c.requires.small.ranged in
    let room : cell a.grid.now a.place.seat a.place.window < cell a.caps.now a.place.seat a.place.window =
    omega (arith, c.if-caps-seat.false) in
    finds (instance_in a.t a.caps.now) (cell a.grid.now) _ _ _ c.later_graph.ensures (small-proper _ _ c.requires.small) c.requires.settled
    place.0 place.1 _ c.held_after-goals.ensures ranged.seats_most ranged.windows_most room
    c.cycle_in.result c.cycle_in.ensures
