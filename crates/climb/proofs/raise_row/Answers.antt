-- `climb::raise_row` meets its contract. Each turn raises one cell.
use borrow.Author.Rules.{rules}
use mathlib.Core.Path.{◌≡◌}
use native.Mathlib.Omega.{arith}
use Rattle.climb.proofs.Climbing.{pass-next-seat}
use Rattle.climb.proofs.raise_row.Goals as goal

pub loop-window-init : goal.loop-window-init
loop-window-init c = (search rules, c.requires.climbed)

pub raise_cell-requires : goal.raise_cell-requires
raise_cell-requires c = record {
  small = c.requires.small;
  seat_lt_seats = (c.requires.seat_lt_seats, search rules);
  climbed = c.loop-window.invariant.1;
}

pub loop-window-preserved : goal.loop-window-preserved
loop-window-preserved c = (search rules, c.raise_cell.ensures)

pub returns : goal.returns
returns c =
    let e : c.loop-window.window ≡ c.args.t.windows = omega arith in
    pass-next-seat c.args.t c.args.caps.now c.requires.small _ _ (rw e at c.loop-window.invariant.1)
