-- Levels in memory, and the list that the front of an array is.
use Rattle.std.specs.Prelude.{List, ℕ, ◌≤◌, ◌<◌, get_or}
use Rattle.fairness.specs.Leximin.{Level, table}
use Rattle.leximin.specs.declared.Level as memory

-- what a place past the end counts as
abbrev pub no_level : memory.Level
no_level = record { height = 0; weight = 0 }

-- the level that stands at a place of an array
abbrev pub level_at : List memory.Level → ℕ → Level
level_at levels i = ((get_or levels i no_level).height, (get_or levels i no_level).weight)

-- the first n levels of an array
unfoldable pub list_in : ℕ → List memory.Level → List Level
list_in n levels = table n (level_at levels)

-- small enough that no cross product overflows
pub record Bounded (l : memory.Level) : Type 0 where
  pub height_most : l.height ≤ 2000000
  pub weight_most : l.weight ≤ 1000

-- and so each of the first n levels of an array
abbrev pub AllBounded : ℕ → List memory.Level → Type 0
AllBounded n levels = (i : ℕ) → i < n → Bounded (get_or levels i no_level)
