use Rattle.streams.proofs.Turns.{some_more}
use Rattle.say.proofs.say_refusal.Goals as goal

pub returns-in_err-say_number : goal.returns-in_err-say_number
returns-in_err-say_number g c = some_more _ _ _ c.say_text.ensures.kept c.say_number.ensures

pub returns-in_err-say_text-2 : goal.returns-in_err-say_text-2
returns-in_err-say_text-2 g c = some_more _ _ _ (some_more _ _ _ c.say_text.ensures.kept c.say_number.ensures) c.say_text-2.ensures.kept

pub returns : goal.returns
returns g c =
    some_more _ _ _ (some_more _ _ _ (some_more _ _ _ c.say_text.ensures.kept c.say_number.ensures) c.say_text-2.ensures.kept)
    c.say_number-2.ensures
