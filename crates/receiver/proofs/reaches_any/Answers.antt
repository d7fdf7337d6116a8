-- `receiver::reaches_any` meets its contract.
use borrow.Author.Rules.{rules}
use mathlib.Core.Path.{◌≡◌}
use native.Mathlib.Omega.{arith}
use Rattle.masks.proofs.Laws.{bit-zero}
use Rattle.receiver.proofs.Seeing.{first, taken, taken-less, last, looked, found, joined}
use Rattle.receiver.proofs.reaches_any.Goals as goal

pub returns-then-wanted-eq0 : goal.returns-then-wanted-eq0
returns-then-wanted-eq0 c = (λ e. cc, λ h. absurd (omega (arith, rw c.if-wanted-eq0.true at h.1.1, bit-zero h.0)))

pub loop-front-init : goal.loop-front-init
loop-front-init c = first _ _ _ _ _ (search rules) c.insert-seen.ensures c.full-windows.ensures c.requires.1

pub loop-w-init : goal.loop-w-init
loop-w-init c =
    let low = c.lowest-k.ensures in
    let next = taken _ _ _ _ _ _ _ _ _ _ c.loop-front.invariant low (c.remove_lowest-front.ensures _ low) in
    let e : c.into_iter-w-iterator.result.left ≡ c.intersect-left.result = cc in
    rw e (next c.intersect-left.ensures c.minus-windows.ensures)

pub loop-front-smaller : goal.loop-front-smaller
loop-front-smaller c =
    let low = c.lowest-k.ensures in
    let next = taken-less _ _ _ _ _ _ _ _ _ _ c.loop-front.invariant low (c.remove_lowest-front.ensures _ low) in
    next c.intersect-left.ensures c.minus-windows.ensures _ _ c.loop-w.invariant.alike

pub loop-front-preserved : goal.loop-front-preserved
loop-front-preserved c = looked _ _ _ _ _ _ _ _ _ _ c.loop-w.invariant c.in-None.ensures.steps

pub loop-w-preserved : goal.loop-w-preserved
loop-w-preserved c =
    let step = c.in-Some.ensures.steps in
    let next = joined _ _ _ _ _ _ _ _ _ _ c.loop-w.invariant _ step.0 _ _ _ step.1 in
    next c.minus-new.ensures c.intersect.ensures _ _ c.union-front.ensures c.union-seen.ensures c.if-intersect-ne0.false

pub returns-then-intersect-ne0 : goal.returns-then-intersect-ne0
returns-then-intersect-ne0 c =
    let step = c.in-Some.ensures.steps in
    let one = found _ _ _ _ _ _ _ _ _ _ c.loop-w.invariant _ step.0 _ _ _ step.1 in
    (λ e. one c.minus-new.ensures c.intersect.ensures (omega arith) (search rules), λ h. search rules)

pub returns : goal.returns
returns c =
    let none = last _ _ _ _ _ _ c.loop-front.invariant c.loop-front-test.false in
    (λ e. cc, λ h. absurd (none h.0 h.1.0 h.1.1))
