-- `sheet::Sheet::placed` meets its contract: the sums of its grid.
use mathlib.Core.Path.{◌∙◌}
use Rattle.sheet.proofs.Cells.{placed-is}
use Rattle.sheet.proofs.Sheet.placed.Goals as goal

pub returns : goal.returns
returns c j l = c.placed.ensures j l ∙ placed-is _ _ c.to_grid-grid.ensures _ j
