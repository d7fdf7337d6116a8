-- Windows filled: no credit is left of a window while a seat is below its cap there.
use Rattle.std.specs.Prelude.{◌≡◌, ◌≢◌, List, ℕ, min, ◌+◌, ◌-◌, ◌≤◌, ◌<◌, get_or}
use Rattle.fairness.specs.Sums.{sum}
use Rattle.fairness.specs.Instance.{Instance, Sheet, Feasible, Wasteful}
use Rattle.model.specs.Book.{Grid, cell, Shaped}
use Rattle.fill.specs.declared.steps.Step.{Step}

-- feasible, with nothing wasted
pub record Full (I : Instance) (S : Sheet) : Type 0 where
  pub feasible : Feasible I S
  pub unwasted : Wasteful I S → ⊥

-- ---- one window j of n seats

-- no cell is above its cap, and all together are not above the supply
pub record FeasibleAt (n j : ℕ) (caps : Grid) (supply : ℕ) (g : Grid) : Type 0 where
  pub within : (i : ℕ) → i < n → cell g i j ≤ cell caps i j
  pub fits : sum n (λ i. cell g i j) ≤ supply

-- .. and all together are the supply, or all caps where these are less
pub record FullAt (n j : ℕ) (caps : Grid) (supply : ℕ) (g : Grid) : Type 0 where
  pub within : (i : ℕ) → i < n → cell g i j ≤ cell caps i j
  pub placed : sum n (λ i. cell g i j) ≡ min supply (sum n (λ i. cell caps i j))

-- r is the grid g with window j filled
pub record Handed (n j : ℕ) (caps : Grid) (supply : ℕ) (g r : Grid) : Type 0 where
  pub shape : Shaped 32 24 r
  pub full : FullAt n j caps supply r
  pub others : (i k : ℕ) → k ≢ j → cell r i k ≡ cell g i k

-- ---- m windows of n seats

-- every window is filled
pub record Filled (n m : ℕ) (caps : Grid) (supplies : List ℕ) (r : Grid) : Type 0 where
  pub shape : Shaped 32 24 r
  pub full : (j : ℕ) → j < m → FullAt n j caps (get_or supplies j 0) r

-- whatever the supplies, what was filled stays filled
pub record Keeps (n m : ℕ) (caps g r : Grid) : Type 0 where
  pub kept : (supplies : List ℕ) → Filled n m caps supplies g → Filled n m caps supplies r

-- ---- one move

-- a move lets a credits through: the giver has them, the taker has room for them, and its cell holds them
pub record Passes (caps g : Grid) (step : Step) (a : ℕ) : Type 0 where
  pub has : a ≤ cell g step.giver step.window
  pub free : a ≤ cell caps step.taker step.window - cell g step.taker step.window
  pub holds : cell g step.taker step.window + a ≤ 65535
