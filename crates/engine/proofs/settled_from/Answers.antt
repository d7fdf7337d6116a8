-- `engine::settled_from` meets its contract: what is feasible is filled, stays filled, and is settled.
use Rattle.sheet.proofs.Shapes.{is-grid}
use Rattle.engine.proofs.Starting.{grid-full}
use Rattle.engine.proofs.settled_from.Goals as goal

pub fill-requires : goal.fill-requires
fill-requires c =
    let bounds = c.requires.small.ranged in record {
      seats_bound = (bounds.seats_most, bounds.windows_most);
      shaped = (is-grid c.args.grid _ c.well_formed.0).shape;
      feasible = c.requires.feasible;
    }

pub settle-requires : goal.settle-requires
settle-requires c =
    let a = c.args in
    let f = c.even_out.ensures.kept a.t.supplies c.fill.ensures in record {
      small = c.requires.small;
      full = grid-full a.t a.caps.now _ f;
    }
