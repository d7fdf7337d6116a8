use borrow.Author.Tests.{le-leb, lt-leb}
use Rattle.dayfile.proofs.Tests.{and_yes, and_no}
use Rattle.dayfile.proofs.within.Goals as goal

pub returns-then-low-x : goal.returns-then-low-x
returns-then-low-x c = and_yes _ (le-leb _ _ c.if-low-x.true)

pub returns-else-low-x : goal.returns-else-low-x
returns-else-low-x c = and_no _ (lt-leb _ _ c.if-low-x.false)
