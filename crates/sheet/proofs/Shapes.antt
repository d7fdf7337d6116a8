-- What owning an array tells of its lists: `search (needs, is-grid)` or `shaped s _ c.good.0`, where s is the first parameter.
use mathlib.Core.Path.{◌≡◌, ◌∙◌}
use mathlib.Core.List.{List, [], ◌∷◌, map}
use Prim.Native.Nat.{ℕ, zero, suc, ◌<◌}
use native.Mathlib.Omega.{arith}
use lib.ListN.{length, get_or, length-map}
use mir.Val.{Val, Fits}
use mir.Syntax.{w16}
use denote.Array.{each, in_array}
use denote.Plain.{UInt}
use denote.Shadow.{shadow}
use borrow.Author.Rules.{elem_Fits, rules}
use Rattle.model.specs.Book.{Grid, cell, Shaped}
use Rattle.sheet.specs.declared.Row.{Row}
use Rattle.sheet.specs.declared.Sheet.{Sheet}
use Rattle.sheet.specs.Sheets.{grid_of}
use Rattle.sheet.specs.contracts.Row as row
use Rattle.sheet.specs.contracts.Sheet.{the_row}

-- 32 rows of 24 cells, each below 2 ^ 16
pub record Held (g : Grid) : Type 0 where
  pub shape : Shaped 32 24 g
  pub small : (i j : ℕ) → cell g i j < 65536

-- ---- a bare array of arrays

abbrev Cells : Grid → List Val → Type 0
Cells xs us = shadow (each (List ℕ) (in_array ℕ (UInt w16).own_val 24) xs us)

long : (xs : Grid) (us : List Val) (i : ℕ) → i < length xs → Cells xs us → length (get_or xs i []) ≡ 24
long [] us i h p = absurd (omega arith)
long (x ∷ xs) [] i h p = absurd p
long (x ∷ xs) (u ∷ us) zero h p = p.0.1.0.1
long (x ∷ xs) (u ∷ us) (suc i) h p = long xs us i (omega arith) p.1

fits : (xs : Grid) (us : List Val) (i j : ℕ) → Cells xs us → Fits w16 (cell xs i j)
fits [] us i j p = search rules
fits (x ∷ xs) [] i j p = absurd p
fits (x ∷ xs) (u ∷ us) zero j p = elem_Fits w16 w16 x p.0.0 j p.0.1.1 tt
fits (x ∷ xs) (u ∷ us) (suc i) j p = fits xs us i j p.1

pub is-grid : (g : Grid) (vs : List Val) → shadow (in_array (List ℕ) (in_array ℕ (UInt w16).own_val 24) 32 g vs) → Held g
is-grid g vs p =
    let n : length g ≡ 32 = p.1.0.1 in
    record {
      shape = record { rows = n; row = λ i h. long g p.0 i (omega arith) p.1.1 };
      small = λ i j. (fits g p.0 i j p.1.1).fits;
    }

-- ---- a sheet

abbrev Rows : List Row → List Val → Type 0
Rows xs us = shadow (each row.the_row.Denot row.the_row.own_val xs us)

abbrev cells_of : List Row → Grid
cells_of xs = map (λ (r : Row). r.cells) xs

long-row : (xs : List Row) (us : List Val) (i : ℕ) → i < length xs → Rows xs us → length (get_or (cells_of xs) i []) ≡ 24
long-row [] us i h p = absurd (omega arith)
long-row (x ∷ xs) [] i h p = absurd p
long-row (x ∷ xs) (u ∷ us) zero h p = p.0.1.1.0.1.0.1
long-row (x ∷ xs) (u ∷ us) (suc i) h p = long-row xs us i (omega arith) p.1

fits-row : (xs : List Row) (us : List Val) (i j : ℕ) → Rows xs us → Fits w16 (cell (cells_of xs) i j)
fits-row [] us i j p = search rules
fits-row (x ∷ xs) [] i j p = absurd p
fits-row (x ∷ xs) (u ∷ us) zero j p = elem_Fits w16 w16 x.cells p.0.1.1.0.0 j p.0.1.1.0.1.1 tt
fits-row (x ∷ xs) (u ∷ us) (suc i) j p = fits-row xs us i j p.1

pub shaped : (s : Sheet) (vs : List Val) → shadow (the_row.own_val s vs) → Held (grid_of s)
unfolding grid_of
shaped s vs p =
    let a = p.1.1.0 in
    let n : length s.rows ≡ 32 = a.1.0.1 in
    record {
      shape = record {
        rows = length-map s.rows (λ (r : Row). r.cells) ∙ n;
        row = λ i h. long-row s.rows a.0 i (omega arith) a.1.1;
      };
      small = λ i j. (fits-row s.rows a.0 i j a.1.1).fits;
    }
