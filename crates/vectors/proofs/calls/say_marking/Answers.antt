use Rattle.streams.proofs.Turns.{some_more}
use Rattle.vectors.proofs.calls.say_marking.Goals as goal

pub returns-in_err-say_named-2 : goal.returns-in_err-say_named-2
returns-in_err-say_named-2 g c = some_more _ _ _ c.say_named.ensures c.say_named-2.ensures

pub returns-in_err-say_named-3 : goal.returns-in_err-say_named-3
returns-in_err-say_named-3 g c = some_more _ _ _ (some_more _ _ _ c.say_named.ensures c.say_named-2.ensures) c.say_named-3.ensures

pub returns : goal.returns
returns g c =
    some_more _ _ _ (some_more _ _ _ (some_more _ _ _ c.say_named.ensures c.say_named-2.ensures) c.say_named-3.ensures)
    c.say_named-4.ensures
