use Prim.Native.Nat.{ℕ, ◌+◌, ◌*◌}
use mathlib.Core.Path.{ap, ap₂, ◌∙◌}
use Rattle.dayfile.proofs.Tests.{cond_yes, cond_no}
use Rattle.dayfile.specs.Layout.{ends}
use borrow.Author.Tests.{eq-eqb, ne_eqb}
use Rattle.fields.proofs.ends.Goals as goal

pub returns-then-e-eq0 : goal.returns-then-e-eq0
unfolding ends
returns-then-e-eq0 c = ap (λ (n : ℕ). 2 + 6 * n) c.count.ensures.0 ∙ cond_yes _ _ (eq-eqb _ _ c.if-e-eq0.true)

pub returns-else-e-eq0 : goal.returns-else-e-eq0
unfolding ends
returns-else-e-eq0 c =
    ap₂ (λ (a b : ℕ). a + b) c.start.ensures.0 c.size.ensures.0 ∙ cond_no _ _ (ne_eqb _ _ c.if-e-eq0.false)
