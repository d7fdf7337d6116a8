use Rattle.streams.proofs.Turns.{some_more}
use Rattle.vectors.proofs.calls.read.Goals as goal

pub returns-then-r : goal.returns-then-r
returns-then-r g c = some_more _ _ _ c.say_text.ensures.kept c.write.ensures

pub returns : goal.returns
returns g c = some_more _ _ _ c.say_refusal.ensures c.say_text-2.ensures.kept
