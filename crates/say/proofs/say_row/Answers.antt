use Rattle.streams.proofs.Turns.{some_more}
use Rattle.say.proofs.say_row.Goals as goal

pub returns-in_err-say_number : goal.returns-in_err-say_number
returns-in_err-say_number g c = some_more _ _ _ c.say_text.ensures.kept c.say_number.ensures

pub returns-in_err-say_count : goal.returns-in_err-say_count
returns-in_err-say_count g c = some_more _ _ _ (some_more _ _ _ c.say_text.ensures.kept c.say_number.ensures) c.say_count.ensures

pub returns-in_err-say_count-2 : goal.returns-in_err-say_count-2
returns-in_err-say_count-2 g c =
    some_more _ _ _ (some_more _ _ _ (some_more _ _ _ c.say_text.ensures.kept c.say_number.ensures) c.say_count.ensures)
    c.say_count-2.ensures

pub returns-in_err-say_count-3 : goal.returns-in_err-say_count-3
returns-in_err-say_count-3 g c =
    some_more _ _ _ (some_more _ _ _ (some_more _ _ _ (some_more _ _ _ c.say_text.ensures.kept c.say_number.ensures) c.say_count.ensures)
    c.say_count-2.ensures) c.say_count-3.ensures

pub returns : goal.returns
returns g c =
    some_more _ _ _ (some_more _ _ _
    (some_more _ _ _ (some_more _ _ _ (some_more _ _ _ c.say_text.ensures.kept c.say_number.ensures) c.say_count.ensures)
    c.say_count-2.ensures) c.say_count-3.ensures) c.say_text-2.ensures.kept
