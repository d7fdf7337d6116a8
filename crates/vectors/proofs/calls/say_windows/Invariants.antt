use Rattle.streams.specs.Streams.{AppendsSome}
use Rattle.vectors.proofs.calls.say_windows.Given as goal

abbrev pub invariant-loop-w : goal.invariant-loop-w
invariant-loop-w g l = AppendsSome (g.W.Write.contents l.fn.to) (g.W.Write.contents l.to)
