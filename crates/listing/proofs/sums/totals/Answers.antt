-- `listing::sums::totals` meets its contract. Each turn adds one seat's total.
use mathlib.Core.Path.{refl}
use Rattle.lists.proofs.Arrays.{filled-first, filled_next, filled_at}
use Rattle.listing.proofs.sums.totals.Goals as goal

pub loop-i-init : goal.loop-i-init
loop-i-init c = filled-first refl c.requires.0

pub loop-i-preserved : goal.loop-i-preserved
loop-i-preserved c =
    filled_next c.loop-i.invariant c.loop-i-test.true c.row_total.ensures.0

pub returns : goal.returns
returns c = filled_at c.loop-i.invariant c.loop-i-test.false
