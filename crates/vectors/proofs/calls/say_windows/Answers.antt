use Rattle.streams.proofs.Turns.{some_more}
use Rattle.vectors.proofs.calls.say_windows.Goals as goal

pub returns-in_err-say_count : goal.returns-in_err-say_count
returns-in_err-say_count g c = some_more _ _ _ c.loop-w.invariant c.say_count.ensures

pub loop-w-preserved : goal.loop-w-preserved
loop-w-preserved g c = some_more _ _ _ c.loop-w.invariant c.say_count.ensures

pub returns : goal.returns
returns g c = some_more _ _ _ c.loop-w.invariant c.say_text.ensures.kept
