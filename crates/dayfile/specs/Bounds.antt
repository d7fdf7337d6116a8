-- Paper 01, "The book", and paper 02: what holds of every book and sheet that a day file can hold.
use Rattle.std.specs.Prelude.{Option, None, Some}
use Rattle.std.specs.Prelude.{◌≡◌, List, ℕ, suc, ◌≤◌, ◌<◌, length, get_or}
use Rattle.model.specs.Book.{Book, Grid, Shaped, SheetOf, cell, seats, windows}

-- a seat that is named as the first is one of the book's
abbrev pub FirstFit : ℕ → Option ℕ → Type 0
FirstFit n None = Unit {0}
FirstFit n (Some k) = (1 ≤ k) × (k ≤ n)

-- balances are one for each of n seats, 0 to 50,000
abbrev pub BalancesFit : ℕ → Option (List ℕ) → Type 0
BalancesFit n None = Unit {0}
BalancesFit n (Some xs) = (length xs ≡ n) × ((i : ℕ) → i < n → get_or xs i 0 ≤ 50000)

-- weights are eight, 1 to 1,000, each greater than the one before
abbrev pub WeightsFit : Option (List ℕ) → Type 0
WeightsFit None = Unit {0}
WeightsFit (Some ws) =
    (length ws ≡ 8)
    × ((k : ℕ) → k < 8 → (1 ≤ get_or ws k 0) × (get_or ws k 0 ≤ 1000)) × ((k : ℕ) → suc k < 8 → get_or ws k 0 < get_or ws (suc k) 0)

-- 1 to 32 seats, 1 to 24 windows; classes 1 to 8; supplies and caps 0 to 4,095; a cap for each seat and window; a first seat of the book;
-- balances; weights
pub record Fit (b : Book) : Type 0 where
  pub seats_low : 1 ≤ seats b
  pub seats_high : seats b ≤ 32
  pub windows_low : 1 ≤ windows b
  pub windows_high : windows b ≤ 24
  pub class_low : (i : ℕ) → i < seats b → 1 ≤ get_or b.classes i 0
  pub class_high : (i : ℕ) → i < seats b → get_or b.classes i 0 ≤ 8
  pub supply_high : (j : ℕ) → j < windows b → get_or b.supplies j 0 ≤ 4095
  pub cap_shape : Shaped (seats b) (windows b) b.caps
  pub cap_high : (i j : ℕ) → i < seats b → j < windows b → cell b.caps i j ≤ 4095
  pub first_seat : FirstFit (seats b) b.first
  pub balances_fit : BalancesFit (seats b) b.balances
  pub weights_fit : WeightsFit b.weights

-- a sheet has one cell per seat and window; it may be missing
abbrev pub SheetFit : Book → Option Grid → Type 0
SheetFit b None = Unit {0}
SheetFit b (Some s) = SheetOf b s

-- and each of its cells is a two-byte number
abbrev pub TwoByte : Book → Option Grid → Type 0
TwoByte b None = Unit {0}
TwoByte b (Some s) = (i j : ℕ) → i < seats b → j < windows b → cell s i j < 65536

-- the longest file has 32 seats, 24 windows, a sheet, a first seat, balances and weights
abbrev pub longest_file : ℕ
longest_file = 3310
