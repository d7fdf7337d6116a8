use Rattle.streams.proofs.Turns.{some_more}
use Rattle.vectors.proofs.calls.better.Goals as goal

pub returns-in_err-say_text : goal.returns-in_err-say_text
returns-in_err-say_text g c = some_more _ _ _ c.say_choice.ensures c.say_text.ensures.kept

pub returns : goal.returns
returns g c = some_more _ _ _ (some_more _ _ _ c.say_choice.ensures c.say_text.ensures.kept) c.say_hex.ensures
