use Rattle.streams.proofs.Turns.{some_more}
use Rattle.say.proofs.say_hex.Goals as goal

pub returns-in_err-say_byte : goal.returns-in_err-say_byte
returns-in_err-say_byte g c = some_more _ _ _ c.loop-x.invariant c.say_byte.ensures

pub loop-x-preserved : goal.loop-x-preserved
loop-x-preserved g c = some_more _ _ _ c.loop-x.invariant c.say_byte.ensures

pub returns : goal.returns
returns g c = some_more _ _ _ c.loop-x.invariant c.say_text.ensures.kept
