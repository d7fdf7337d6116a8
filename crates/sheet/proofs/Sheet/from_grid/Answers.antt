-- `sheet::Sheet::from_grid` meets its contract. Each turn copies one row.
use borrow.Author.Rules.{rules}
use mathlib.Core.Path.{refl}
use mathlib.Core.List.{[]}
use lib.ListN.{get_or}
use Rattle.lists.proofs.Arrays.{filled-first, filled_next, filled_copy}
use Rattle.sheet.specs.declared.Row.{Row}
use Rattle.sheet.proofs.Cells.{set-row}
use Rattle.sheet.proofs.Shapes.{Held, is-grid, shaped}
use Rattle.sheet.proofs.Sheet.from_grid.Goals as goal

pub loop-i-preserved : goal.loop-i-preserved
loop-i-preserved c =
    let l = c.loop-i in
    let row : Row = record { cells = get_or c.args.grid l.i [] } in
    rw (set-row l.sheet l.i row) (filled_next l.invariant (search rules) refl)

pub returns : goal.returns
returns c =
    let h : Held c.args.grid = search (rules, is-grid) in
    filled_copy c.loop-i.invariant (search rules) h.shape.rows

pub loop-i-init : goal.loop-i-init
loop-i-init c = filled-first (shaped _ _ c.zero-sheet.type_inv).shape.rows (search rules)
