-- `climb::raise_cell` meets its contract. Each turn plays one cycle, which raises the cell by one.
use Rattle.model.specs.Book.{cell}
use Rattle.climb.proofs.Climbing.{turn-playable, turn-climbed, turn-less, pass-next}
use Rattle.climb.proofs.raise_cell.Goals as goal

pub returns : goal.returns
returns c =
    let a = c.args in
    pass-next a.t a.caps.now c.requires.small (cell c.loop-cycle.grid) _ _ c.loop-cycle.invariant c.in_default.ensures

pub play_cycle-requires : goal.play_cycle-requires
play_cycle-requires c =
    let a = c.args in
    let raising = c.in-Some.ensures in
    record {
      writable = raising.writable;
      all_playable = turn-playable a.t a.caps.now c.requires.small _ _ _ c.loop-cycle.invariant c.in-Some.cycle raising;
    }

pub loop-cycle-smaller : goal.loop-cycle-smaller
loop-cycle-smaller c =
    let a = c.args in
    let place = c.requires.seat_lt_seats in
    turn-less a.t a.caps.now c.requires.small _ _ _ c.loop-cycle.invariant c.in-Some.cycle c.in-Some.ensures _ c.play_cycle.ensures
    place.0 place.1

pub loop-cycle-preserved : goal.loop-cycle-preserved
loop-cycle-preserved c =
    let a = c.args in
    turn-climbed a.t a.caps.now c.requires.small _ _ _ c.loop-cycle.invariant c.in-Some.cycle c.in-Some.ensures _ c.play_cycle.ensures
    c.requires.seat_lt_seats.1
