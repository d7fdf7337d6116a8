use Rattle.streams.proofs.Turns.{some_more}
use Rattle.vectors.proofs.calls.say_sheet.Goals as goal

pub returns-in_err-say_named : goal.returns-in_err-say_named
returns-in_err-say_named g c = some_more _ _ _ c.say_text.ensures.kept c.say_named.ensures

pub returns : goal.returns
returns g c = some_more _ _ _ (some_more _ _ _ c.say_text.ensures.kept c.say_named.ensures) c.say_named-2.ensures
