use Prim.Native.Nat.{ℕ, ◌<◌}
use Rattle.paths.specs.Layers.{Meets}
use Rattle.paths.proofs.first_meeting.Given as goal

abbrev pub invariant-loop-i : goal.invariant-loop-i
invariant-loop-i l = (k : ℕ) → k < l.i → Meets l.set l.sets l.other k → ⊥
