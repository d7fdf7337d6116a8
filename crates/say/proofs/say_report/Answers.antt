use Rattle.streams.proofs.Turns.{some_more}
use Rattle.say.proofs.say_report.Goals as goal

pub returns-in_err-say_row : goal.returns-in_err-say_row
returns-in_err-say_row g c = some_more _ _ _ c.loop-row.invariant c.say_row.ensures

pub loop-row-preserved : goal.loop-row-preserved
loop-row-preserved g c = some_more _ _ _ c.loop-row.invariant c.say_row.ensures

pub returns-in_err-say_count : goal.returns-in_err-say_count
returns-in_err-say_count g c = some_more _ _ _ c.loop-row.invariant c.say_count.ensures

pub returns : goal.returns
returns g c = some_more _ _ _ (some_more _ _ _ c.loop-row.invariant c.say_count.ensures) c.say_text-2.ensures.kept
