-- `pair::same_cells` meets its contract. Up to seat i the rows are the same.
use mathlib.Core.Path.{refl, sym, ◌∙◌}
use mathlib.Core.Bool.{true≢false}
use native.Mathlib.Omega.{arith}
use Rattle.lists.proofs.Alls.{up_to}
use Rattle.pair.proofs.same_cells.Goals as goal

pub returns-then-not-same_row : goal.returns-then-not-same_row
returns-then-not-same_row c = (
  λ e. absurd (true≢false (sym e)),
  λ h. absurd (true≢false (sym (c.same_row.ensures.1 (h _ c.loop-i-test.true)) ∙ c.if-not-same_row.true)),
)

pub loop-i-preserved : goal.loop-i-preserved
loop-i-preserved c =
    let l = c.loop-i in
    up_to l.invariant (c.same_row.ensures.0 c.if-not-same_row.false)

pub returns : goal.returns
returns c = (λ e i l. c.loop-i.invariant i (omega (arith, c.loop-i-test.false)), λ h. refl)

pub loop-i-init : goal.loop-i-init
loop-i-init c = λ i l. absurd (omega arith)
