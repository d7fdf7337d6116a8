use mathlib.Core.Path.{refl}
use Rattle.fairness.specs.Leximin.{table}
use Rattle.sheet.specs.Sheets.{grid_of}
use Rattle.dayfile.specs.Memory.{sized, sized_grid}
use Rattle.fields.proofs.arrays.no_grid.Goals as goal

pub returns : goal.returns
unfolding grid_of sized_grid sized table
returns c = refl
