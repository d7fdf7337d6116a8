use native.Mathlib.Omega.{arith}
use borrow.Author.Tests.{lt-ltb, le-ltb}
use Rattle.dayfile.specs.Layout.{count, contents_end}
use Rattle.dayfile.specs.Table.{line3}
use Rattle.dayfile.proofs.Tests.{yes-when, no-when}
use Rattle.sound.proofs.contents.contents_cut.Goals as goal

pub returns-then-file-count : goal.returns-then-file-count
unfolding line3
returns-then-file-count c =
    let n = count c.args.file.now in
    let told = c.count.ensures.0 in yes-when _ (lt-ltb _ (contents_end n) (omega arith))

pub returns-else-file-count : goal.returns-else-file-count
unfolding line3
returns-else-file-count c =
    let n = count c.args.file.now in
    let told = c.count.ensures.0 in no-when _ (le-ltb _ (contents_end n) (omega arith))
