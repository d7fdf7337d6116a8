use native.Mathlib.Omega.{arith}
use Prim.Native.Nat.{zero-le}
use Rattle.store.proofs.Slots.{total_first, total-next, total-end}
use Rattle.store.proofs.contents.count_entries.Goals as goal

pub loop-i-init : goal.loop-i-init
loop-i-init c = (zero-le, total_first)

pub loop-i-preserved : goal.loop-i-preserved
loop-i-preserved c =
    (omega (arith, c.size_if-n.ensures.1), total-next _ c.loop-i.invariant.1 (omega (arith, c.requires)) c.size_if-n.ensures.0)

pub returns : goal.returns
returns c =
    (total-end c.loop-i.invariant.1 (omega (arith, c.requires)), omega (arith, c.requires, c.loop-i.invariant.1.within))
