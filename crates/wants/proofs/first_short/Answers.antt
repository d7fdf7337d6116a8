-- `wants::first_short` meets its contract: each turn passes one seat that has what it wants.
use borrow.Author.Rules.{rules}
use native.Mathlib.Decide.{ℕ_discrete}
use native.Mathlib.Omega.{arith}
use Rattle.wants.proofs.first_short.Goals as goal

pub loop-i-init : goal.loop-i-init
loop-i-init c = (search rules, λ k l. absurd (omega arith))

pub returns-then-totals-i : goal.returns-then-totals-i
returns-then-totals-i c = (search rules, c.if-totals-i.true)

pub loop-i-preserved : goal.loop-i-preserved
loop-i-preserved c =
    let at = c.loop-i in (
      search rules,
      λ k l. elim (ℕ_discrete k at.i) [ yes e ↦ rw e c.if-totals-i.false | no d ↦ at.invariant.1 k (omega arith) ],
    )

pub returns : goal.returns
returns c = let at = c.loop-i in λ k l. at.invariant.1 k (omega (arith, c.loop-i-test.false))
