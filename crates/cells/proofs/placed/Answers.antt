-- `cells::placed` meets its contract. Each turn adds one seat's cell.
use Prim.Native.Nat.{◌*◌, ◌<◌}
use mathlib.Core.Path.{◌∙◌}
use native.Mathlib.Omega.{arith}
use Rattle.sheet.proofs.Sums.{first, last}
use Rattle.cells.proofs.Sheets.{add-cell, placed-is, row_small}
use Rattle.cells.proofs.placed.Goals.{In-loop-i}
use Rattle.cells.proofs.placed.Goals as goal

-- the row's place in a turn is small
row : (c : In-loop-i) → c.loop-i.i * c.windows-m.result < 1073741824
row c = row_small c.loop-i-test.true c.seats-n.ensures.1 c.windows-m.ensures.1

pub loop-i-preserved : goal.loop-i-preserved
loop-i-preserved c =
    let l = c.loop-i in
    add-cell _ _ l.i l.total l.invariant c.loop-i-test.true c.field-total.ensures.0 c.field-total.ensures.1

pub returns : goal.returns
returns c =
    let l = c.loop-i in
    last _ _ l.i l.total l.invariant c.loop-i-test.false
    ∙ placed-is _ _ _ c.start-at.ensures.0 c.seats-n.ensures.0 c.windows-m.ensures.0

pub loop-i-init : goal.loop-i-init
loop-i-init c = first _ _

pub overflow_mul-i : goal.overflow_mul-i
overflow_mul-i c = omega (arith, row (goal.at.overflow_mul-i c).In-loop-i)

pub overflow_add-i : goal.overflow_add-i
overflow_add-i c = omega (arith, row (goal.at.overflow_add-i c).In-loop-i)

pub overflow_mul-i-in-loop-i : goal.overflow_mul-i-in-loop-i
overflow_mul-i-in-loop-i c = omega (arith, row (goal.at.overflow_mul-i-in-loop-i c).In-loop-i)

pub overflow_add-at : goal.overflow_add-at
overflow_add-at c = omega (arith, row (goal.at.overflow_add-at c).In-loop-i)

pub field-total-requires : goal.field-total-requires
field-total-requires c = omega (arith, row (goal.at.field-total-requires c).In-loop-i)
