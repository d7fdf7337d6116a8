-- What two books in memory have in common where they are the same: the used entries.
use Rattle.std.specs.Prelude.{◌≡◌, List, ℕ, ◌<◌, get_or}
use Rattle.dayfile.specs.declared.Book as Memory
use Rattle.instance.specs.Terms.{balances_in_force, weights_in_force}

-- the first n numbers of two arrays
abbrev pub SameUpTo : ℕ → List ℕ → List ℕ → Type 0
SameUpTo n xs ys = (i : ℕ) → i < n → get_or xs i 0 ≡ get_or ys i 0

-- the cells of two sheets, in the first n seats and the first m windows
abbrev pub SameCells : ℕ → ℕ → (ℕ → ℕ → ℕ) → (ℕ → ℕ → ℕ) → Type 0
SameCells n m S T = (i : ℕ) → i < n → (j : ℕ) → j < m → S i j ≡ T i j

-- all but the caps; of the balances and the weights those in force
pub record SameLists (a b : Memory.Book) : Type 0 where
  pub seats : a.seats ≡ b.seats
  pub windows : a.windows ≡ b.windows
  pub classes : SameUpTo a.seats a.classes b.classes
  pub supplies : SameUpTo a.windows a.supplies b.supplies
  pub balances : SameUpTo a.seats (balances_in_force a) (balances_in_force b)
  pub weights : SameUpTo 8 (weights_in_force a) (weights_in_force b)
