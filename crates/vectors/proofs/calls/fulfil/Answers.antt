use Rattle.streams.proofs.Turns.{some_more}
use Rattle.vectors.proofs.calls.fulfil.Goals as goal

pub returns-in_err-say_each-2 : goal.returns-in_err-say_each-2
returns-in_err-say_each-2 g c = some_more _ _ _ c.say_each.ensures c.say_each-2.ensures

pub returns-in_err-say_each-3 : goal.returns-in_err-say_each-3
returns-in_err-say_each-3 g c = some_more _ _ _ (some_more _ _ _ c.say_each.ensures c.say_each-2.ensures) c.say_each-3.ensures

pub returns-in_err-say_each-4 : goal.returns-in_err-say_each-4
returns-in_err-say_each-4 g c =
    some_more _ _ _ (some_more _ _ _ (some_more _ _ _ c.say_each.ensures c.say_each-2.ensures) c.say_each-3.ensures) c.say_each-4.ensures

pub returns : goal.returns
returns g c =
    some_more _ _ _ (some_more _ _ _ (some_more _ _ _ (some_more _ _ _ c.say_each.ensures c.say_each-2.ensures) c.say_each-3.ensures)
    c.say_each-4.ensures) c.say_buffer.ensures
