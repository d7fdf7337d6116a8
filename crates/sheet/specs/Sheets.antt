-- What the arrays in memory say. A sheet always has 32 rows of 24 cells; a book of n seats and m windows uses the first n rows, and the
-- first m cells of each.
use Rattle.std.specs.Prelude.{◌≡◌, ◌≢◌, [], map, ℕ, ◌+◌, ◌≤◌, ◌<◌, get_or}
use Rattle.fairness.specs.Exchange as exchange
use Rattle.model.specs.Book.{Grid}
use Rattle.sheet.specs.declared.Row.{Row}
use Rattle.sheet.specs.declared.Sheet.{Sheet}
use Rattle.sheet.specs.declared.Move.{Move}

-- what a row past the last one counts as
abbrev pub no_row : Row
no_row = record { cells = [] }

-- the cell of a seat and a window: what the sheet is in the terms of the crate `fairness`
abbrev pub credit : Sheet → ℕ → ℕ → ℕ
credit s seat window = get_or (get_or s.rows seat no_row).cells window 0

-- the sheet's 32 rows of 24 cells as lists
unfoldable pub grid_of : Sheet → Grid
grid_of s = map (λ (r : Row). r.cells) s.rows

-- the move of the crate `fairness` that a move in memory is
abbrev pub move_of : Move → exchange.Move
move_of m = record { window = m.window; giver = m.giver; taker = m.taker }

-- a move that the arrays can take: its seats and its window are in range, the giver has a credit there, and the taker's cell can hold
-- one more. Where caps fit 16 bits, each possible move is one.
pub record Playable (s : ℕ → ℕ → ℕ) (m : exchange.Move) : Type 0 where
  pub in_window : m.window < 24
  pub in_giver : m.giver < 32
  pub in_taker : m.taker < 32
  pub has : 0 < s m.giver m.window
  pub room : s m.taker m.window < 65535

-- r is a sum s with a further cell c, which has 16 bits
pub record Added (s c r : ℕ) : Type 0 where
  pub sum_is : r ≡ s + c
  pub most : r ≤ s + 65535

-- r is s with the number v at seat i in window j
pub record Written (s : ℕ → ℕ → ℕ) (i j v : ℕ) (r : ℕ → ℕ → ℕ) : Type 0 where
  pub here : r i j ≡ v
  pub seats : (a b : ℕ) → a ≢ i → r a b ≡ s a b
  pub windows : (a b : ℕ) → b ≢ j → r a b ≡ s a b
