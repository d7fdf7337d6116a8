-- `sheet::add_row` meets its contract. Each turn adds one cell.
use borrow.Author.Rules.{rules}
use mathlib.Core.Path.{◌≡◌}
use native.Mathlib.Omega.{arith}
use lib.ListN.{get_or}
use Rattle.lists.proofs.Arrays.{filled-first, filled_next, filled_at}
use Rattle.sheet.proofs.add_row.Goals as goal

pub loop-j-init : goal.loop-j-init
loop-j-init c = filled-first (search rules) c.requires.windows_bound

pub overflow_add-sums : goal.overflow_add-sums
overflow_add-sums c =
    let sum-here : get_or c.loop-j.sums c.loop-j.j 0 ≡ get_or c.args.sums c.loop-j.j 0 = c.loop-j.invariant.rest c.loop-j.j (omega arith) in
    let most = c.requires.by_index c.loop-j.j c.loop-j-test.true in
    omega (arith, sum-here, most, c.wide.ensures)

pub loop-j-preserved : goal.loop-j-preserved
loop-j-preserved c =
    let sum-here : get_or c.loop-j.sums c.loop-j.j 0 ≡ get_or c.args.sums c.loop-j.j 0 = c.loop-j.invariant.rest c.loop-j.j (omega arith) in
    let l = c.loop-j in
    let x = c.wide.ensures in
    filled_next l.invariant c.loop-j-test.true
    (record { sum_is = omega (arith, sum-here, x); most = omega (arith, sum-here, x) })

pub returns : goal.returns
returns c = filled_at c.loop-j.invariant c.loop-j-test.false
