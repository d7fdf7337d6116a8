use Rattle.std.proofs.Common.{length, ◌-◌, ◌≤◌}
use Rattle.streams.specs.Streams.{AppendsSome}
use Rattle.vectors.proofs.run_all.Given as goal

abbrev pub invariant-loop-start : goal.invariant-loop-start
invariant-loop-start g l = (l.start ≤ length l.text) × AppendsSome (g.W.Write.contents l.fn.to) (g.W.Write.contents l.to)

abbrev pub decreases-loop-start : goal.decreases-loop-start
decreases-loop-start g l = length l.text - l.start
