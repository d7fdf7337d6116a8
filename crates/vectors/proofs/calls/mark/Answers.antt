use Rattle.streams.proofs.Turns.{some_more}
use Rattle.vectors.proofs.calls.mark.Goals as goal

pub returns : goal.returns
returns g c = some_more _ _ _ c.say_marking.ensures c.say_buffer.ensures
