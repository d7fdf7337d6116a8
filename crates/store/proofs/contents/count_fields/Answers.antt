use native.Mathlib.Omega.{arith}
use Rattle.store.proofs.Slots.{total_first, total-next, total-under, total-end}
use Rattle.store.proofs.contents.count_fields.Goals as goal

pub loop-i-init : goal.loop-i-init
loop-i-init c = total_first

pub overflow_add-n : goal.overflow_add-n
overflow_add-n c =
    let u = total-under _ c.loop-i.invariant (omega (arith, c.requires)) c.size_if-n.ensures.0 in omega (arith, c.requires)

pub loop-i-preserved : goal.loop-i-preserved
loop-i-preserved c =
    total-next _ c.loop-i.invariant (omega (arith, c.requires)) c.size_if-n.ensures.0

pub returns : goal.returns
returns c = total-end c.loop-i.invariant (omega (arith, c.requires))
