use Rattle.streams.proofs.Turns.{some_more}
use Rattle.vectors.proofs.calls.say_choice.Goals as goal

pub returns-in_ok-say_refusal-in-Refused : goal.returns-in_ok-say_refusal-in-Refused
returns-in_ok-say_refusal-in-Refused g c = some_more _ _ _ c.say_refusal.ensures c.say_named.ensures
