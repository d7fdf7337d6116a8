use mathlib.Core.Path.{ap, ◌∙◌, refl, sym}
use borrow.Author.Tests.{eq-eqb, ne_eqb}
use Rattle.dayfile.specs.Layout.{ends}
use Rattle.dayfile.specs.Table.{line6}
use Rattle.dayfile.proofs.Tests.{keeps, fails}
use Rattle.sound.proofs.contents.wrong_end.Goals as goal

pub returns-then-ends-file : goal.returns-then-ends-file
unfolding line6
returns-then-ends-file c =
    let told = c.ends.ensures ∙ ap (ends c.args.file.now) c.count.ensures.0 in
    keeps _ refl (eq-eqb _ _ (sym told ∙ c.if-ends-file.true))

pub returns-else-ends-file : goal.returns-else-ends-file
unfolding line6
returns-else-ends-file c =
    let told = c.ends.ensures ∙ ap (ends c.args.file.now) c.count.ensures.0 in
    fails _ refl (ne_eqb _ _ (λ q. c.if-ends-file.false (told ∙ q)))
