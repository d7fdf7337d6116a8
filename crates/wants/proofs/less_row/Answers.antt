-- `wants::less_row` meets its contract: each turn takes of one window.
use borrow.Author.Rules.{rules}
use native.Mathlib.Omega.{arith}
use Rattle.lists.proofs.Arrays.{filled-first, filled_next, filled_at}
use Rattle.wants.proofs.less_row.Goals as goal

pub loop-w-init : goal.loop-w-init
loop-w-init c = filled-first (search rules) (search rules)

pub overflow_sub-left : goal.overflow_sub-left
overflow_sub-left c =
    let at = c.loop-w in
    omega (arith, at.invariant.rest at.w (omega arith), c.requires.by_index at.w (search rules))

pub loop-w-preserved : goal.loop-w-preserved
loop-w-preserved c =
    let at = c.loop-w in
    filled_next at.invariant (search rules)
    (omega (arith, at.invariant.rest at.w (omega arith), c.requires.by_index at.w (search rules)))

pub returns : goal.returns
returns c = λ j l. filled_at c.loop-w.invariant c.loop-w-test.false j l
