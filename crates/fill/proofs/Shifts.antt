-- Credits that go from a giver to a taker in one window, within what the giver has and what the taker has room for, leave a filled grid
-- filled.
use mathlib.Core.Path.{◌≡◌, ◌∙◌}
use mathlib.Core.Logic.{◌≢◌}
use mathlib.Core.List.{List, [], ◌∷◌}
use Prim.Native.Nat.{ℕ, zero, suc, ◌+◌, ◌-◌, ◌≤◌, ◌<◌}
use native.Mathlib.Decide.{ℕ_discrete}
use native.Mathlib.Omega.{arith}
use lib.ListN.{get_or, set}
use Rattle.model.specs.Book.{Grid, cell, Shaped}
use Rattle.sheet.specs.Sheets.{Written}
use Rattle.sheet.proofs.Cells.{written, written_is, written-shaped}
use Rattle.fill.specs.Fills.{FullAt, Filled}
use Rattle.fill.proofs.Columns.{column-here}
use Rattle.fill.proofs.Filling.{same_full}

-- what a giver keeps, and what a taker has then
abbrev pub given : Grid → ℕ → ℕ → ℕ → Grid
given g k w a = written g k w (cell g k w - a)

abbrev pub taken : Grid → ℕ → ℕ → ℕ → Grid
taken g t w a = written g t w (cell g t w + a)

-- giving raises no cell, whatever the grid's shape
set-le : (l : List ℕ) (w v j : ℕ) → v ≤ get_or l w 0 → get_or (set l w v) j 0 ≤ get_or l j 0
set-le [] w v j h = omega arith
set-le (x ∷ l) zero v zero h = h
set-le (x ∷ l) zero v (suc j) h = omega arith
set-le (x ∷ l) (suc w) v zero h = omega arith
set-le (x ∷ l) (suc w) v (suc j) h = set-le l w v j h

written-le : (g : Grid) (k w v i j : ℕ) → v ≤ cell g k w → cell (written g k w v) i j ≤ cell g i j
written-le [] k w v i j h = omega arith
written-le (x ∷ g) zero w v zero j h = set-le x w v j h
written-le (x ∷ g) zero w v (suc i) j h = omega arith
written-le (x ∷ g) (suc k) w v zero j h = omega arith
written-le (x ∷ g) (suc k) w v (suc i) j h = written-le g k w v i j h

pub given-le : (g : Grid) (k w a i j : ℕ) → cell (given g k w a) i j ≤ cell g i j
given-le g k w a i j = written-le g k w _ i j (omega arith)

module _
    (n m : ℕ) (caps : Grid) (supplies : List ℕ) (g : Grid) (f : Filled n m caps supplies g) (hn : n ≤ 32) (hm : m ≤ 24)
    (w k t a : ℕ) (hw : w < m) (hk : k < n) (ht : t < n) (has : a ≤ cell g k w) (free : a ≤ cell caps t w - cell g t w)
  where
    shape₁ : Shaped 32 24 (given g k w a)
    shape₁ = written-shaped 32 24 g f.shape k w _ (omega arith) (omega arith)

    first : Written (cell g) k w (cell g k w - a) (cell (given g k w a))
    first = written_is 32 24 g f.shape k w _ (omega arith) (omega arith)

    second : Written (cell (given g k w a)) t w (cell (given g k w a) t w + a) (cell (taken (given g k w a) t w a))
    second = written_is 32 24 (given g k w a) shape₁ t w _ (omega arith) (omega arith)

    -- what the taker has then is at most its cap, also where it is the giver
    taker : cell (given g k w a) t w + a ≤ cell caps t w
    taker = omega (arith, given-le g k w a t w, (f.full w hw).within t ht)

    other : (i j : ℕ) → j ≢ w → cell (taken (given g k w a) t w a) i j ≡ cell g i j
    other i j d = second.windows i j d ∙ first.windows i j d

    -- the window of the step
    here : FullAt n w caps (get_or supplies w 0) (taken (given g k w a) t w a)
    here = record {
      within = λ i l. elim (ℕ_discrete i t) [
        | yes q ↦ rw q (omega (arith, second.here, taker))
        | no d ↦ omega (arith, second.seats i w d, given-le g k w a i w, (f.full w hw).within i l)
      ];
      placed = omega (arith, column-here n _ _ t w _ second ht, column-here n _ _ k w _ first hk, (f.full w hw).placed);
    }

    pub shifted : Filled n m caps supplies (taken (given g k w a) t w a)
    shifted = record {
      shape = written-shaped 32 24 (given g k w a) shape₁ t w _ (omega arith) (omega arith);
      full = λ j l. elim (ℕ_discrete j w) [
        | yes e ↦ rw e here
        | no d ↦ same_full n j caps (get_or supplies j 0) g _ (λ i. other i j d) (f.full j l)
      ];
    }
