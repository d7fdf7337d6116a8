use Prim.Native.Nat.{ℕ}
use Rattle.reach.specs.Graphs.{Spread}
use Rattle.reach.proofs.Waves.{ahead}
use Rattle.reach.proofs.Graph.reached.Given as goal

abbrev pub invariant-loop-wave : goal.invariant-loop-wave
invariant-loop-wave l = (n : ℕ) × Spread l.self l.g n l.wave

abbrev pub decreases-loop-wave : goal.decreases-loop-wave
decreases-loop-wave l = ahead l.wave
