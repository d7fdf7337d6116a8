-- `wants::alone_totals` meets its contract: each turn adds up one seat's.
use borrow.Author.Rules.{rules}
use mathlib.Core.Path.{refl}
use Rattle.lists.proofs.Arrays.{filled-first, filled_next, filled_at}
use Rattle.wants.proofs.alone_totals.Goals as goal

pub loop-i-init : goal.loop-i-init
loop-i-init c = filled-first refl (search rules)

pub loop-i-preserved : goal.loop-i-preserved
loop-i-preserved c = filled_next c.loop-i.invariant (search rules) c.alone_total.ensures

pub returns : goal.returns
returns c = λ i l. filled_at c.loop-i.invariant c.loop-i-test.false i l
