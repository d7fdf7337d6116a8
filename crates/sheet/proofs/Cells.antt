-- The laws of a grid's cells: when all are 0, and after a write.
use mathlib.Core.Path.{◌≡◌, refl, ap, sym, ◌∙◌, fun_ext}
use mathlib.Core.Logic.{◌≢◌}
use mathlib.Core.List.{List, [], ◌∷◌, map}
use Prim.Native.Nat.{ℕ, zero, suc, ◌<◌}
use native.Mathlib.Decide.{ℕ_discrete}
use native.Mathlib.Omega.{arith}
use lib.ListN.{length, get_or, set, replicate, length-set, get_or-map}
use lib.Seq.{get_or-set_same, get_or-set_other}
use Rattle.lists.proofs.Arrays.{zeros-at}
use Rattle.fairness.specs.Sums.{sum}
use Rattle.model.specs.Book.{Grid, cell, Shaped}
use Rattle.sheet.specs.declared.Row.{Row}
use Rattle.sheet.specs.declared.Sheet.{Sheet}
use Rattle.sheet.specs.Sheets.{no_row, credit, grid_of, Written}

-- ---- a sheet and its grid

-- the same rows, and the same cells
pub row_is : (s : Sheet) (i : ℕ) → get_or (grid_of s) i [] ≡ (get_or s.rows i no_row).cells
unfolding grid_of
row_is s i = get_or-map (λ (r : Row). r.cells) s.rows i no_row

pub credit-cell : (s : Sheet) (i j : ℕ) → credit s i j ≡ cell (grid_of s) i j
credit-cell s i j = ap (λ (l : List ℕ). get_or l j 0) (sym (row_is s i))

-- the same functions
pub credit-is : (s : Sheet) → credit s ≡ cell (grid_of s)
credit-is s = fun_ext (λ i. fun_ext (λ j. credit-cell s i j))

-- the same sums
pub placed-is : (s : Sheet) (g : Grid) → g ≡ grid_of s → (n j : ℕ) → sum n (λ i. cell g i j) ≡ sum n (λ i. credit s i j)
placed-is s g e n j = ap (λ (f : ℕ → ℕ → ℕ). sum n (λ i. f i j)) (ap cell e ∙ sym (credit-is s))

-- rows of zeros
pub all-zero : (n m i j : ℕ) → credit (record { rows = replicate n (record { cells = replicate m 0 }) }) i j ≡ 0
all-zero zero m i j = refl
all-zero (suc n) m zero j = zeros-at m j
all-zero (suc n) m (suc i) j = all-zero n m i j

-- ---- a write

abbrev pub written : Grid → ℕ → ℕ → ℕ → Grid
written g i j v = set g i (set (get_or g i []) j v)

module _ (n m : ℕ) (g : Grid) (p : Shaped n m g) (i j v : ℕ) (hi : i < n) (hj : j < m) where
  row_same : get_or (written g i j v) i [] ≡ set (get_or g i []) j v
  row_same = get_or-set_same g i _ [] (omega (arith, p.rows))

  row_other : (a : ℕ) → a ≢ i → get_or (written g i j v) a [] ≡ get_or g a []
  row_other a d = get_or-set_other g i a _ [] d

  pub written_is : Written (cell g) i j v (cell (written g i j v))
  written_is = record {
    here = ap (λ (r : List ℕ). get_or r j 0) row_same ∙ get_or-set_same (get_or g i []) j v 0 (omega (arith, p.row i hi));
    seats = λ a b d. ap (λ (r : List ℕ). get_or r b 0) (row_other a d);
    windows = λ a b d. elim (ℕ_discrete a i) [
      | yes e ↦ rw e (ap (λ (r : List ℕ). get_or r b 0) row_same ∙ get_or-set_other (get_or g i []) j b v 0 d)
      | no q ↦ ap (λ (r : List ℕ). get_or r b 0) (row_other a q)
    ];
  }

  pub written-shaped : Shaped n m (written g i j v)
  written-shaped = record {
    rows = length-set g i _ ∙ p.rows;
    row = λ a l. elim (ℕ_discrete a i) [
      | yes e ↦ rw e (ap length row_same ∙ length-set (get_or g i []) j v ∙ p.row i hi)
      | no q ↦ ap length (row_other a q) ∙ p.row a l
    ];
  }

-- ---- a write on a sheet

map-set : (l : List Row) (i : ℕ) (y : Row) → map (λ (r : Row). r.cells) (set l i y) ≡ set (map (λ (r : Row). r.cells) l) i y.cells
map-set [] i y = refl
map-set (x ∷ l) zero y = refl
map-set (x ∷ l) (suc i) y = ap (λ (t : Grid). x.cells ∷ t) (map-set l i y)

-- a whole row
pub set-row : (s : Sheet) (i : ℕ) (r : Row) → grid_of (record { rows = set s.rows i r }) ≡ set (grid_of s) i r.cells
unfolding grid_of
set-row s i r = map-set s.rows i r

-- a cell
abbrev pub put_in : Sheet → ℕ → ℕ → ℕ → Sheet
put_in s i j v = record { rows = set s.rows i (record { cells = set (get_or s.rows i no_row).cells j v }) }

put-grid : (s : Sheet) (i j v : ℕ) → grid_of (put_in s i j v) ≡ written (grid_of s) i j v
put-grid s i j v = rw (row_is s i) (set-row s i _)

module _ (s : Sheet) (p : Shaped 32 24 (grid_of s)) (i j v : ℕ) (hi : i < 32) (hj : j < 24) where
  pub put_is : Written (credit s) i j v (credit (put_in s i j v))
  put_is = rw (credit-is s, credit-is (put_in s i j v), put-grid s i j v) (written_is 32 24 (grid_of s) p i j v hi hj)

  pub put-shaped : Shaped 32 24 (grid_of (put_in s i j v))
  put-shaped = rw (put-grid s i j v) (written-shaped 32 24 (grid_of s) p i j v hi hj)
