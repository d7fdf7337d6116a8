use Prim.Native.Nat.{◌<◌, ◌^◌}
use Rattle.lists.proofs.Arrays.{Filled}
use Rattle.reach.specs.Graphs.{Spread}
use Rattle.reach.proofs.Waves.{Growing}
use Rattle.paths.proofs.Spreading.{Holds}
use Rattle.paths.proofs.layers.Given as goal

abbrev pub invariant-loop-set : goal.invariant-loop-set
invariant-loop-set l = record {
  so_far : Filled (Holds l.graph l.g) 0 32 32 l.initial.set-items l.set-index l.set-items;
  spread : Spread l.graph l.g l.set-index l.wave;
  growing : Growing l.set-index l.wave;
  fits : l.wave.seen < 2 ^ 32;
}
