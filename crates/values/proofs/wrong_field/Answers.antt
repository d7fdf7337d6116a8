use mathlib.Core.Bool.{not}
use mathlib.Core.Path.{ap}
use native.Mathlib.Omega.{arith}
use Rattle.dayfile.proofs.Search.{walk_first, walk-on, walk-hit, walk_end}
use Rattle.values.proofs.wrong_field.Goals as goal

pub loop-p-init : goal.loop-p-init
loop-p-init c = walk_first (omega arith)

pub returns-then-not-right_after : goal.returns-then-not-right_after
returns-then-not-right_after c =
    walk-hit c.loop-p.invariant (omega arith) c.right_after.ensures c.field-x.ensures.0 (ap not c.if-not-right_after.true)

pub loop-p-preserved : goal.loop-p-preserved
loop-p-preserved c =
    walk-on c.loop-p.invariant (omega arith) c.right_after.ensures c.field-x.ensures.0 (ap not c.if-not-right_after.false)

pub returns : goal.returns
returns c = walk_end c.loop-p.invariant (omega arith)
