use Rattle.streams.proofs.Turns.{some_more}
use Rattle.say.proofs.say_reply.Goals as goal

pub returns-then-r : goal.returns-then-r
returns-then-r g c = some_more _ _ _ c.say_text.ensures.kept c.say_number.ensures
