use mathlib.Core.Bool.{Bool, not, ◌&&◌, ◌||◌}
use mathlib.Core.Path.{ap}
use lib.Dec.{ltb}
use Rattle.dayfile.proofs.right_after.Goals as goal

pub returns : goal.returns
returns c =
    let a = c.args in ap (λ (w : Bool). (not a.rising || ltb a.before a.x) && w) c.within.ensures
