-- `pair::same` meets its contract. Up to place i the numbers are the same.
use mathlib.Core.Path.{refl, sym}
use mathlib.Core.Bool.{true≢false}
use native.Mathlib.Omega.{arith}
use Rattle.lists.proofs.Alls.{up_to}
use Rattle.pair.proofs.same.Goals as goal

pub returns-then-a-i : goal.returns-then-a-i
returns-then-a-i c =
    (λ e. absurd (true≢false (sym e)), λ h. absurd (c.if-a-i.true (h _ c.loop-i-test.true)))

pub loop-i-preserved : goal.loop-i-preserved
loop-i-preserved c = up_to c.loop-i.invariant c.if-a-i.false

pub returns : goal.returns
returns c = (λ e i l. c.loop-i.invariant i (omega (arith, c.loop-i-test.false)), λ h. refl)

pub loop-i-init : goal.loop-i-init
loop-i-init c = λ i l. absurd (omega arith)
