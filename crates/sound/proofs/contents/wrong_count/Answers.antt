use Rattle.dayfile.specs.Table.{known, line2}
use Rattle.dayfile.proofs.Tests.{outside-at-as}
use Rattle.sound.proofs.contents.wrong_count.Goals as goal

pub returns : goal.returns
unfolding line2
returns c = let n = c.count in outside-at-as 3 known n.result 0 c.outside_at.ensures n.ensures.0
