-- `engine::settled` meets its contract: the grid of zeros is feasible.
use Rattle.engine.proofs.Starting.{zeros-feasible}
use Rattle.engine.proofs.settled.Goals as goal

pub settled_from-requires : goal.settled_from-requires
settled_from-requires c = record {
  small = c.requires;
  feasible = zeros-feasible c.args.t c.args.caps.now 32 24;
}
