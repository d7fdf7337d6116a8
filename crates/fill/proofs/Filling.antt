-- Windows filled one after another, each seat by seat.
use mathlib.Core.Path.{◌≡◌, ◌∙◌}
use mathlib.Core.Logic.{◌≢◌}
use mathlib.Core.List.{List}
use Prim.Native.Nat.{ℕ, zero, suc, min, ◌+◌, ◌-◌, ◌≤◌, ◌<◌}
use native.Mathlib.Nat.{le_antisymm}
use native.Mathlib.Decide.{ℕ_discrete}
use native.Mathlib.Omega.{arith}
use lib.ListN.{get_or}
use Rattle.fairness.specs.Sums.{sum}
use Rattle.fairness.proofs.Sums.{sum-le, sum-eq}
use Rattle.model.specs.Book.{Grid, cell, Shaped}
use Rattle.sheet.specs.Sheets.{Written}
use Rattle.sheet.proofs.Cells.{written, written_is, written-shaped}
use Rattle.fill.specs.Fills.{FeasibleAt, FullAt, Handed, Filled}
use Rattle.fill.proofs.Columns.{column-here}

-- ---- one window

module _ (n j : ℕ) (caps : Grid) (supply : ℕ) (g : Grid) where
  -- the seats below k have what they can of window j, and this many credits are left of it
  pub record Filling (k left : ℕ) (r : Grid) : Type 0 where
    pub shape : Shaped 32 24 r
    pub within : (i : ℕ) → i < n → cell r i j ≤ cell caps i j
    pub count : sum n (λ i. cell r i j) + left ≡ supply
    pub full : (i : ℕ) → i < k → 0 < left → cell caps i j ≤ cell r i j
    pub others : (i b : ℕ) → b ≢ j → cell r i b ≡ cell g i b

  module _
      (k left more : ℕ) (r : Grid) (f : Filling k left r) (hk : k < n) (hn : n ≤ 32) (hj : j < 24)
      (e : more ≡ min left (cell caps k j - cell r k j))
    where
      wrote : Written (cell r) k j (cell r k j + more) (cell (written r k j (cell r k j + more)))
      wrote = written_is 32 24 r f.shape k j _ (omega arith) hj

      -- seat k is given the lesser of what is left and its room
      pub next : Filling (k + 1) (left - more) (written r k j (cell r k j + more))
      next = record {
        shape = written-shaped 32 24 r f.shape k j _ (omega arith) hj;
        within = λ i l. elim (ℕ_discrete i k) [
          | yes q ↦ rw q (omega (arith, wrote.here, f.within k hk))
          | no q ↦ omega (arith, wrote.seats i j q, f.within i l)
        ];
        count = omega (arith, f.count, column-here n (cell r) _ k j _ wrote hk);
        full = λ i l some. elim (ℕ_discrete i k) [
          | yes q ↦ rw q (omega (arith, wrote.here))
          | no q ↦ omega (arith, wrote.seats i j q, f.full i (omega arith) (omega arith))
        ];
        others = λ i b d. wrote.windows i b d ∙ f.others i b d;
      }

  pub last : (k left : ℕ) (r : Grid) → Filling k left r → n ≤ k → Handed n j caps supply g r
  last k left r f l = record {
    shape = f.shape;
    full = record { within = f.within; placed = together left f.count f.full };
    others = f.others;
  }
    where
      most : sum n (λ i. cell r i j) ≤ sum n (λ i. cell caps i j)
      most = sum-le n (λ i. cell r i j) (λ i. cell caps i j) f.within

      together : (left : ℕ) → sum n (λ i. cell r i j) + left ≡ supply → ((i : ℕ) → i < k → 0 < left → cell caps i j ≤ cell r i j)
          → sum n (λ i. cell r i j) ≡ min supply (sum n (λ i. cell caps i j))
      together zero count full = omega (arith, most)
      together (suc left) count full =
          let at_cap : (i : ℕ) → i < n → cell r i j ≡ cell caps i j
          = λ i b. le_antisymm (f.within i b) (full i (omega arith) (omega arith)) in
          omega (arith, sum-eq n (λ i. cell r i j) (λ i. cell caps i j) at_cap)

-- ---- all windows

-- a window with the same cells is as full
pub same_full : (n j : ℕ) (caps : Grid) (supply : ℕ) (g r : Grid) → ((i : ℕ) → cell r i j ≡ cell g i j) → FullAt n j caps supply g
    → FullAt n j caps supply r
same_full n j caps supply g r same full = record {
  within = λ i l. omega (arith, same i, full.within i l);
  placed = sum-eq n _ _ (λ i l. same i) ∙ full.placed;
}

module _ (n : ℕ) (caps : Grid) (supplies : List ℕ) (g : Grid) where
  -- the windows below m are filled, and the others are as they were
  pub record Upto (m : ℕ) (r : Grid) : Type 0 where
    pub filled : Filled n m caps supplies r
    pub later : (i j : ℕ) → m ≤ j → cell r i j ≡ cell g i j

  module _ (m : ℕ) (r : Grid) (u : Upto m r) where
    -- the next window is as it was
    pub next-feasible : FeasibleAt n m caps (get_or supplies m 0) g → FeasibleAt n m caps (get_or supplies m 0) r
    next-feasible p = record {
      within = λ i l. omega (arith, u.later i m (omega arith), p.within i l);
      fits = omega (arith, sum-eq n (λ i. cell r i m) (λ i. cell g i m) (λ i l. u.later i m (omega arith)), p.fits);
    }

    pub filled_more : (t : Grid) → Handed n m caps (get_or supplies m 0) r t → Upto (m + 1) t
    filled_more t h = record {
      filled = record {
        shape = h.shape;
        full = λ j l. elim (ℕ_discrete j m) [
          | yes e ↦ rw e h.full
          | no d ↦ same_full n j caps (get_or supplies j 0) r t (λ i. h.others i j d) (u.filled.full j (omega arith))
        ];
      };
      later = λ i j l. h.others i j (λ e. omega arith) ∙ u.later i j (omega arith);
    }
