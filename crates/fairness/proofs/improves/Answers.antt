-- `fairness::improves` meets its contract: the products fit, and the test ends at the first part that decides it.
use borrow.Author.Rules.{rules}
use mathlib.Core.Path.{sym, ◌∙◌}
use borrow.Author.Tests.{lt-ltb, le-ltb, eq-eqb, ne_eqb}
use Rattle.fairness.proofs.Bools.{and_yes, and_no, or_yes, or_no}
use Rattle.fairness.proofs.Products.{moderate-fits, rest-fits, improves-rest}
use Rattle.fairness.proofs.improves.Goals as goal

pub returns-then-level-donor_level : goal.returns-then-level-donor_level
returns-then-level-donor_level c =
    or_yes _ _ (lt-ltb _ _ c.if-level-donor_level.true) ∙ sym (improves-rest _ _ _ _ _ c.less_one-rest.ensures)

pub returns-then-level-donor_level-2 : goal.returns-then-level-donor_level-2
returns-then-level-donor_level-2 c =
    and_yes _ _ (eq-eqb _ _ c.if-level-donor_level-2.true) ∙ or_no _ _ (le-ltb _ _ c.if-level-donor_level.false)
    ∙ sym (improves-rest _ _ _ _ _ c.less_one-rest.ensures)

pub returns-else-level-donor_level-2 : goal.returns-else-level-donor_level-2
returns-else-level-donor_level-2 c =
    and_no _ _ (ne_eqb _ _ c.if-level-donor_level-2.false) ∙ or_no _ _ (le-ltb _ _ c.if-level-donor_level.false)
    ∙ sym (improves-rest _ _ _ _ _ c.less_one-rest.ensures)

pub overflow_mul-level : goal.overflow_mul-level
overflow_mul-level c = search (rules, moderate-fits)

pub overflow_mul-donor_level : goal.overflow_mul-donor_level
overflow_mul-donor_level c = search (rules, rest-fits)
