-- `wants::take_row` meets its contract: each turn takes of one window.
use borrow.Author.Rules.{rules}
use mathlib.Core.Path.{refl, ap, ◌∙◌}
use Prim.Native.Nat.{ℕ, min}
use native.Mathlib.Omega.{arith}
use lib.ListN.{get_or}
use Rattle.lists.proofs.Arrays.{filled-first, filled_next, filled_at}
use Rattle.fairness.proofs.Sums.{sum-zero}
use Rattle.wants.proofs.Rows.{left-next}
use Rattle.wants.proofs.take_row.Goals as goal

pub loop-w-init : goal.loop-w-init
loop-w-init c =
    let a = c.args in
    (filled-first refl (search rules), omega (arith, sum-zero (λ j. min (get_or a.left.now j 0) (get_or a.most.now j 0))))

pub overflow_sub-missing : goal.overflow_sub-missing
overflow_sub-missing c = omega (arith, c.kept-cell.ensures)

pub loop-w-preserved : goal.loop-w-preserved
loop-w-preserved c =
    let at = c.loop-w in
    let a = c.args in
    let cell = c.kept-cell.ensures ∙ ap (λ (x : ℕ). min x at.missing) c.lesser.ensures in (
      filled_next at.invariant.0 (search rules) (omega (arith, cell, at.invariant.1)),
      left-next _ at.missing _ at.w (λ j. min (get_or a.left.now j 0) (get_or a.most.now j 0)) cell at.invariant.1,
    )

pub returns : goal.returns
returns c = λ j l. filled_at c.loop-w.invariant.0 c.loop-w-test.false j l
