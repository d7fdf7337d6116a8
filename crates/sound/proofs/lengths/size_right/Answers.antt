use mathlib.Core.Path.{◌∙◌, sym}
use Rattle.dayfile.specs.Table.{size_right}
use Rattle.dayfile.proofs.Tests.{and_yes, and_no}
use Rattle.sound.proofs.lengths.size_right.Goals as goal

pub returns-then-within : goal.returns-then-within
unfolding size_right
returns-then-within c = and_yes _ (sym c.within.ensures ∙ c.if-within.true)

pub returns-else-within : goal.returns-else-within
unfolding size_right
returns-else-within c = c.within.ensures ∙ and_no _ (sym c.within.ensures ∙ c.if-within.false)
