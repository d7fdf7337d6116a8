-- `forecast::to_place` meets its contract: each turn works out one window's number.
use borrow.Author.Rules.{rules}
use mathlib.Core.Path.{refl}
use Rattle.lists.proofs.Arrays.{filled-first, filled_next}
use Rattle.forecast.proofs.Figures.{all_placed}
use Rattle.forecast.proofs.to_place.Goals as goal

pub loop-w-init : goal.loop-w-init
loop-w-init c = filled-first refl (search rules)

pub loop-w-preserved : goal.loop-w-preserved
loop-w-preserved c = filled_next c.loop-w.invariant (search rules) c.lesser.ensures

pub returns : goal.returns
returns c =
    let l = c.loop-w in
    let sums = c.placed-sums in
    all_placed _ _ sums.result sums.ensures l.invariant c.loop-w-test.false
