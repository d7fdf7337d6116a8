-- Seats share the credits of windows. All is over functions on ℕ, so lists, arrays and files are instances of it.
-- Seats and windows count from 0 here: seat i is paper 01's seat i + 1, window j its window j + 1.
use Rattle.std.specs.Prelude.{◌≡◌, ℕ, min, ◌+◌, ◌≤◌, ◌<◌}
use Rattle.fairness.specs.Sums.{sum, over}

-- credits per seat and window
abbrev pub Sheet : Type 0
Sheet = ℕ → ℕ → ℕ

-- a book: paper 000's instance, with agents for seats, objects for windows, endowments for weights, demands for caps
pub record Instance : Type 0 where
  pub seats : ℕ
  pub windows : ℕ
  pub cap : ℕ → ℕ → ℕ
  pub supply : ℕ → ℕ
  pub weight : ℕ → ℕ
  -- what a seat's height starts from; 0 in paper 01, the seat's balance in paper 02
  pub base : ℕ → ℕ
  -- a seat's place in the order of the seat rule; its own number in paper 01
  pub position : ℕ → ℕ

-- every weight counts, and no two seats have one place
pub record Proper (I : Instance) : Type 0 where
  pub weights : (i : ℕ) → i < I.seats → 0 < I.weight i
  pub positions : (i k : ℕ) → i < I.seats → k < I.seats → I.position i ≡ I.position k → i ≡ k

module _ (I : Instance) where
  -- a window's cells together
  abbrev pub placed : Sheet → ℕ → ℕ
  placed S j = sum I.seats (λ i. S i j)

  -- paper 01's lawful, paper 000's frugal allocation: no cell above its cap, no window's cells together above its supply
  pub record Feasible (S : Sheet) : Type 0 where
    pub within : (i j : ℕ) → i < I.seats → j < I.windows → S i j ≤ I.cap i j
    pub fits : (j : ℕ) → j < I.windows → placed S j ≤ I.supply j

  -- some window has credits left while a seat is below its cap there
  pub record Wasteful (S : Sheet) : Type 0 where
    pub window : ℕ
    pub seat : ℕ
    pub in_window : window < I.windows
    pub in_seat : seat < I.seats
    pub left : placed S window < I.supply window
    pub room : S seat window < I.cap seat window

  -- a seat's cells together
  abbrev pub total : Sheet → ℕ → ℕ
  total S i = sum I.windows (λ j. S i j)

  -- paper 01's total, where heights start from 0; paper 02's balance plus total
  abbrev pub height : Sheet → ℕ → ℕ
  height S i = I.base i + total S i

  -- paper 000's cap(I, A'), what a group of seats can hold at the most: over the windows, the lesser of supply and the group's caps
  abbrev pub group_capacity : {P : ℕ → Type 0} → ((i : ℕ) → Dec (P i)) → ℕ
  group_capacity in? = sum I.windows (λ j. min (I.supply j) (over in? I.seats (λ i. I.cap i j)))
