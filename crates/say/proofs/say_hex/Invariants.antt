use Rattle.streams.specs.Streams.{AppendsSome}
use Rattle.say.proofs.say_hex.Given as goal

abbrev pub invariant-loop-x : goal.invariant-loop-x
invariant-loop-x g l = AppendsSome (g.W.Write.contents l.fn.to) (g.W.Write.contents l.to)
