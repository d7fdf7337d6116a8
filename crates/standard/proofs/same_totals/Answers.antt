-- `standard::same_totals` meets its contract: each turn compares the totals of one seat.
use borrow.Author.Rules.{rules}
use borrow.Author.Count.{below_more}
use mathlib.Core.Path.{sym, ◌∙◌}
use mathlib.Core.Bool.{true≢false}
use native.Mathlib.Omega.{arith}
use Rattle.standard.proofs.same_totals.Goals as goal

pub loop-i-init : goal.loop-i-init
loop-i-init c = (search rules, λ k l. absurd (omega arith))

pub returns-then-row_total : goal.returns-then-row_total
returns-then-row_total c = λ e. absurd (true≢false (sym e))

pub loop-i-preserved : goal.loop-i-preserved
loop-i-preserved c =
    let at = c.loop-i in
    (search rules, below_more _ _ at.invariant.1 (sym c.row_total.ensures.0 ∙ c.if-row_total.false ∙ c.row_total-in-loop-i.ensures.0))

pub returns : goal.returns
returns c = let at = c.loop-i in λ e i l. at.invariant.1 i (omega arith)
