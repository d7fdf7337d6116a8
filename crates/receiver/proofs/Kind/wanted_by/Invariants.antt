use mathlib.Core.Path.{◌≡◌}
use mathlib.Core.Bool.{true}
use Rattle.reach.specs.Graphs.{Collects}
use Rattle.receiver.specs.Tests.{test_by, score_at}
use Rattle.receiver.proofs.Kind.wanted_by.Given as goal

abbrev pub invariant-loop-l : goal.invariant-loop-l
invariant-loop-l l = Collects l.l (λ k. test_by l.self l.receiver (score_at l.scores k) ≡ true) l.set
