use Rattle.std.proofs.Common.{rules}
use Rattle.streams.proofs.Turns.{some_more}
use Rattle.vectors.proofs.run_all.Goals as goal

pub returns-in_err-run : goal.returns-in_err-run
returns-in_err-run g c = some_more _ _ _ c.loop-start.invariant.1 c.run.ensures

pub returns : goal.returns
returns g c = c.loop-start.invariant.1

pub loop-start-preserved : goal.loop-start-preserved
loop-start-preserved g c = (search rules, some_more _ _ _ c.loop-start.invariant.1 c.run.ensures)
