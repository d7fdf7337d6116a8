use Rattle.masks.specs.Sets.{In}
use Rattle.reach.specs.Graphs.{set_at, Collects}
use Rattle.paths.proofs.column.Given as goal

abbrev pub invariant-loop-i : goal.invariant-loop-i
invariant-loop-i l = Collects l.i (λ k. In l.l (set_at l.sets k)) l.all
