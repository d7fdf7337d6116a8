-- `topmost::singles` meets its contract: each turn makes one set.
use borrow.Author.Rules.{rules}
use mathlib.Core.Path.{refl}
use Rattle.lists.proofs.Arrays.{filled-first, filled_next, filled_at}
use Rattle.topmost.proofs.singles.Goals as goal

pub loop-w-init : goal.loop-w-init
loop-w-init c = filled-first refl (search rules)

pub loop-w-preserved : goal.loop-w-preserved
loop-w-preserved c = filled_next c.loop-w.invariant (search rules) c.insert.ensures.here

pub returns : goal.returns
returns c = λ w l. filled_at c.loop-w.invariant (search rules) w l
