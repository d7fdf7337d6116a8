-- The mark of a sheet: the first that holds of wasteful (1), improvable (2), tied (3), settled (4). Tied and settled pass.
use Rattle.std.specs.Prelude.{Bool, true, false, ◌&&◌, List, [], ◌∷◌, ℕ, ◌+◌, ◌≤◌, ◌<◌, ltb, get_or}
use Rattle.std.specs.Prelude.{Option, Some}
use Rattle.fairness.specs.Instance.{placed, Wasteful}
use Rattle.fairness.specs.Exchange.{Move, improves_at, ties_at, Improvable, Tied}
use Rattle.model.specs.Lowest.{lowest, is_some, or_else, and_then, value_or}
use Rattle.model.specs.Book.{Book, Grid, cell, seats, windows, instance_of}
use Rattle.model.specs.Search.{Found, Picked, search}

pub data Mark : Type 0 where
  -- a window with credits left, and a seat below its cap there
  wasteful : (window seat : ℕ) → Mark
  improvable : Found → Mark
  tied : Found → Mark
  settled : Mark

module _ (b : Book) (s : Grid) where
  -- the lowest seat that is below its cap in a window
  unfoldable pub seat_below : ℕ → Option ℕ
  seat_below j = lowest (seats b) (λ i. ltb (cell s i j) (cell b.caps i j))

  -- the lowest window with credits left while a seat is below its cap there
  unfoldable pub wasted_window : Option ℕ
  wasted_window =
      lowest (windows b) (λ j. ltb (placed (instance_of b) (cell s) j) (get_or b.supplies j 0) && is_some (seat_below j))

  unfoldable pub mark_of : Mark
  mark_of =
      value_or
      (or_else (and_then wasted_window (λ j. and_then (seat_below j) (λ i. Some (wasteful j i))))
      (or_else (and_then (search b s (improves_at (instance_of b) (cell s))) (λ f. Some (improvable f)))
      (and_then (search b s (ties_at (instance_of b) (cell s))) (λ f. Some (tied f)))))
      settled

-- ---- what each mark says (proved in proofs/Marks.antt)

module _ (b : Book) (s : Grid) where
  -- window j has credits left and seat i is below its cap there; the window is the lowest such, and the seat the lowest there
  pub record Wasted (j i : ℕ) : Type 0 where
    pub window : j < windows b
    pub seat : i < seats b
    pub left : placed (instance_of b) (cell s) j < get_or b.supplies j 0
    pub room : cell s i j < cell b.caps i j
    pub lowest_window : (w : Wasteful (instance_of b) (cell s)) → j ≤ w.window
    pub lowest_seat : (k : ℕ) → k < i → cell b.caps k j ≤ cell s k j

  abbrev pub Marked : Mark → Type 0
  Marked (wasteful j i) = Wasted j i
  Marked (improvable f) = (Wasteful (instance_of b) (cell s) → ⊥) × Picked b s (improves_at (instance_of b) (cell s)) f
  Marked (tied f) =
      (Wasteful (instance_of b) (cell s) → ⊥)
      × (Improvable (instance_of b) (cell s) → ⊥) × Picked b s (ties_at (instance_of b) (cell s)) f
  Marked settled =
      (Wasteful (instance_of b) (cell s) → ⊥)
      × (Improvable (instance_of b) (cell s) → ⊥) × (Tied (instance_of b) (cell s) → ⊥)

-- ---- paper 01's numbers and values of each mark

-- seats and windows counted from 1; fields that a mark does not use are 0
pub record Result : Type 0 where
  pub mark : ℕ
  pub window : ℕ
  pub seat : ℕ
  pub moves : ℕ

abbrev pub result_of : Mark → Result
result_of (wasteful j i) = record { mark = 1; window = j + 1; seat = i + 1; moves = 0 }
result_of (improvable f) = record { mark = 2; window = 0; seat = 0; moves = f.moves }
result_of (tied f) = record { mark = 3; window = 0; seat = 0; moves = f.moves }
result_of settled = record { mark = 4; window = 0; seat = 0; moves = 0 }

-- a written chain: each move as three bytes, window, giver, taker, counted from 1; the receiver's (gainer's) move first
unfoldable pub move_bytes : List Move → List ℕ
move_bytes [] = []
move_bytes (m ∷ ms) = (m.window + 1) ∷ (m.giver + 1) ∷ (m.taker + 1) ∷ move_bytes ms

-- marks 3 and 4 pass
abbrev pub passes : Mark → Bool
passes (wasteful j i) = false
passes (improvable f) = false
passes (tied f) = true
passes settled = true
