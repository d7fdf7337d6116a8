-- `sheet::row_total` meets its contract. Each turn adds one cell.
use borrow.Author.Rules.{rules}
use native.Mathlib.Omega.{arith}
use Rattle.sheet.proofs.Sums.{first, next, last, last-most}
use Rattle.sheet.proofs.row_total.Goals as goal

pub loop-w-preserved : goal.loop-w-preserved
loop-w-preserved c =
    let l = c.loop-w in
    let x = c.wide-total.ensures in
    rw x.0 (next _ _ l.w l.total l.invariant (search rules) (omega (arith, x)))

pub returns : goal.returns
returns c =
    let l = c.loop-w in
    (last _ _ l.w l.total l.invariant (search rules), last-most _ _ l.w l.total l.invariant (search rules))

pub loop-w-init : goal.loop-w-init
loop-w-init c = first _ _
