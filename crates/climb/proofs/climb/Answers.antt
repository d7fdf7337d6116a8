-- `climb::climb` meets its contract. Each turn raises the cells of one seat.
use borrow.Author.Rules.{rules}
use mathlib.Core.Path.{◌≡◌}
use native.Mathlib.Omega.{arith}
use Rattle.climb.proofs.Climbing.{pass-start, pass-end}
use Rattle.climb.proofs.climb.Goals as goal

pub loop-seat-init : goal.loop-seat-init
loop-seat-init c = (search rules, pass-start c.args.t c.args.caps.now c.requires.small _ c.requires.settled)

pub raise_row-requires : goal.raise_row-requires
raise_row-requires c = record {
  small = c.requires.small;
  seat_lt_seats = search rules;
  climbed = c.loop-seat.invariant.1;
}

pub loop-seat-preserved : goal.loop-seat-preserved
loop-seat-preserved c = (search rules, c.raise_row.ensures)

pub returns : goal.returns
returns c =
    let e : c.loop-seat.seat ≡ c.args.t.seats = omega arith in
    pass-end c.args.t c.args.caps.now c.requires.small _ (rw e at c.loop-seat.invariant.1)
