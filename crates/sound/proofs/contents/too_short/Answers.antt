use Rattle.dayfile.proofs.Tests.{yes-when, no-when}
use borrow.Author.Tests.{lt-ltb, le-ltb}
use Rattle.dayfile.specs.Table.{line1}
use Rattle.sound.proofs.contents.too_short.Goals as goal

pub returns-then-file-lt2 : goal.returns-then-file-lt2
unfolding line1
returns-then-file-lt2 c = yes-when _ (lt-ltb _ _ c.if-file-lt2.true)

pub returns-else-file-lt2 : goal.returns-else-file-lt2
unfolding line1
returns-else-file-lt2 c = no-when _ (le-ltb _ _ c.if-file-lt2.false)
