-- What the functions on wanted totals in memory hand to each other.
use Rattle.std.specs.Prelude.{List, ℕ, min, ◌-◌, ◌≤◌, ◌<◌, get_or}
use Rattle.fairness.specs.Sums.{sum}
use Rattle.dayfile.specs.declared.Found.{Found}
use Rattle.dayfile.specs.declared.Found.TheVariants.{At, Nothing}

-- the most that a seat's cells can be together: 24 windows of 4,095 credits
abbrev pub most_total : ℕ
most_total = 98280

-- of n seats, one whose total is below what it wants, or that there is none
abbrev pub Short : ℕ → (totals wants : List ℕ) → Found → Type 0
Short n totals wants (At i) = (i < n) × (get_or totals i 0 < get_or wants i 0)
Short n totals wants Nothing = (i : ℕ) → i < n → get_or wants i 0 ≤ get_or totals i 0

-- what a cell of a row keeps of the want: what the windows before it leave
abbrev pub trimmed : ℕ → (ℕ → ℕ) → ℕ → ℕ
trimmed want row j = min (row j) (want - sum j row)
