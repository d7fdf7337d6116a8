-- `sheet::Sheet::to_grid` meets its contract. Each turn copies one row.
use borrow.Author.Rules.{rules}
use mathlib.Core.Path.{refl, sym}
use Rattle.lists.proofs.Arrays.{filled-first, filled_next, filled_copy}
use Rattle.sheet.proofs.Cells.{row_is}
use Rattle.sheet.proofs.Shapes.{shaped}
use Rattle.sheet.proofs.Sheet.to_grid.Goals as goal

pub loop-i-preserved : goal.loop-i-preserved
loop-i-preserved c =
    let l = c.loop-i in
    filled_next l.invariant (search rules) (sym (row_is c.args.self l.i))

pub returns : goal.returns
returns c =
    let s = c.args.self in
    filled_copy c.loop-i.invariant (search rules) (shaped s _ c.well_formed.0).shape.rows

pub loop-i-init : goal.loop-i-init
loop-i-init c = filled-first refl (search rules)
