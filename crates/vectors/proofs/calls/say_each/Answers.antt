use Rattle.streams.proofs.Turns.{some_more}
use Rattle.vectors.proofs.calls.say_each.Goals as goal

pub returns : goal.returns
returns g c = some_more _ _ _ c.say_text.ensures.kept c.say_number.ensures
