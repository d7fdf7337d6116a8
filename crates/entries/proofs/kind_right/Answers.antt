use mathlib.Core.Path.{ap, ap₂, ◌∙◌}
use Prim.Native.Nat.{ℕ, ◌+◌}
use lib.Dec.{eqb}
use borrow.Author.Tests.{lt-ltb, le-ltb}
use Rattle.dayfile.specs.Table.{kind_right, within, known}
use Rattle.dayfile.proofs.Tests.{cond_yes, cond_no}
use Rattle.entries.proofs.kind_right.Goals as goal

pub returns-then-e-lt3 : goal.returns-then-e-lt3
unfolding kind_right
returns-then-e-lt3 c =
    let e = c.args.e in
    ap (λ (k : ℕ). eqb k (e + 1)) c.kind.ensures.0 ∙ cond_yes _ _ (lt-ltb _ _ c.if-e-lt3.true)

pub returns-else-e-lt3 : goal.returns-else-e-lt3
unfolding kind_right
returns-else-e-lt3 c =
    c.within.ensures
    ∙ ap₂ (λ (x y : ℕ). within (x + 1) known y) c.kind-else-e-lt3.ensures.0 c.kind-else-e-lt3-2.ensures.0
    ∙ cond_no _ _ (le-ltb _ _ c.if-e-lt3.false)
