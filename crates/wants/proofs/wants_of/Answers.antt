-- `wants::wants_of` meets its contract: each turn reads one seat's wanted total.
use borrow.Author.Rules.{rules}
use mathlib.Core.Path.{refl}
use Rattle.lists.proofs.Arrays.{filled-first, filled_next, filled_at}
use Rattle.wants.proofs.wants_of.Goals as goal

pub loop-i-init : goal.loop-i-init
loop-i-init c = filled-first refl (search rules)

pub loop-i-preserved : goal.loop-i-preserved
loop-i-preserved c = filled_next c.loop-i.invariant (search rules) c.want_at.ensures

pub returns : goal.returns
returns c = λ i l. filled_at c.loop-i.invariant (search rules) i l
