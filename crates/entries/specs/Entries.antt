-- The three tests of an entry of the table of contents.
use Rattle.std.specs.Prelude.{Bool, List, ℕ}
use Rattle.dayfile.specs.Table.{kind_right, start_right, grid_right}
use Rattle.entries.specs.declared.Test.{Test}
use Rattle.entries.specs.declared.Test.TheVariants.{Kinds, Starts, Grids}

abbrev pub right_by : Test → List ℕ → ℕ → Bool
right_by Kinds = kind_right
right_by Starts = start_right
right_by Grids = grid_right
