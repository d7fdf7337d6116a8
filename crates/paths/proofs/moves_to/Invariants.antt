use mathlib.Core.Path.{◌≡◌}
use lib.ListN.{length, take, drop}
use Rattle.paths.specs.Layers.{Fewest}
use Rattle.paths.proofs.Walking.{Walk}
use Rattle.paths.proofs.moves_to.Given as goal

abbrev pub invariant-loop-r : goal.invariant-loop-r
invariant-loop-r l = record {
  long : length l.moves ≡ 31;
  fewest : Fewest l.sets l.giver l.r;
  walk : Walk l.graph l.sets l.giver l.r (drop l.r (take l.count l.moves)) l.donor;
}
