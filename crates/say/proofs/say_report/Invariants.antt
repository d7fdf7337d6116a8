use Rattle.streams.specs.Streams.{AppendsSome}
use Rattle.say.proofs.say_report.Given as goal

abbrev pub invariant-loop-row : goal.invariant-loop-row
invariant-loop-row g l = AppendsSome (g.W.Write.contents l.fn.to) (g.W.Write.contents l.to)
