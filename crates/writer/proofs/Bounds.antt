-- The first number out of bounds, in a list that comes in parts.
-- Assumes nothing.
use mathlib.Core.Bool.{Bool, false, not}
use mathlib.Core.List.{List, [], ◌++◌, append_assoc, append-nil}
use mathlib.Core.Logic.{⊎_elim, ◌⊎◌, inl, inr}
use Rattle.std.specs.Prelude.{Option, None, Some}
use mathlib.Core.Path.{◌≡◌, refl, sym, ◌∙◌, ap}
use Prim.Native.Nat.{ℕ, zero, suc, ◌+◌, ◌-◌, ◌*◌, ◌≤◌, ◌<◌}
use native.Mathlib.Decide.{dec_lt}
use native.Mathlib.Omega.{arith}
use lib.ListN.{length, get_or, length-append, get_or-append}
use lib.Seq.{get_or-append-add}
use Rattle.model.specs.Lowest.{lowest}
use Rattle.model.proofs.Lowest.{Lowest, Fails, lowest-fails, lowest-is, lowest-some, lowest-none}
use Rattle.dayfile.specs.Table.{within, offset, number_right}
use Rattle.model.specs.Book.{Grid, Shaped}
use Rattle.sheet.specs.Sheets.{no_row, grid_of}
use Rattle.sheet.specs.declared.Sheet.{Sheet}
use Rattle.sheet.proofs.Cells.{row_is}
use Rattle.dayfile.specs.File.{flat}
use Rattle.dayfile.specs.Memory.{sized, sized_grid}
use Rattle.dayfile.proofs.Tables.{sized-length, sized-at}
use Rattle.dayfile.proofs.Grids.{sized-flat-length, sized-flat-none, sized-flat-more}
use Rattle.dayfile.proofs.Search.{offset-none, offset-some, wrong-same}
use Rattle.writer.specs.Values.{wrong_in, outside_in}

lt-or-le : (a b : ℕ) → (a < b) ⊎ (b ≤ a)
lt-or-le a b = elim (dec_lt a b) [ yes h ↦ inl h | no h ↦ inr (omega arith) ]

module _ (low high : ℕ) (rising : Bool) where
  -- the first n numbers
  pub sized-search : (n : ℕ) (xs : List ℕ) (at : ℕ)
      → offset (λ i. at + 2 * i) (lowest n (λ i. not (number_right low high rising (λ k. get_or xs k 0) i)))
      ≡ wrong_in (sized n xs) at low high rising
  unfolding wrong_in
  sized-search n xs at =
      let wrong : List ℕ → ℕ → Bool = λ ys i. not (number_right low high rising (λ k. get_or ys k 0) i) in
      ap (offset (λ i. at + 2 * i))
      (wrong-same low high rising (λ k. get_or xs k 0) (λ k. get_or (sized n xs) k 0) n (λ k h. sym (sized-at n xs k h))
      ∙ ap (λ (k : ℕ). lowest k (wrong (sized n xs))) (sym (sized-length n xs)))

  pub wrong-nil : (at : ℕ) → wrong_in [] at low high rising ≡ None
  unfolding wrong_in lowest
  wrong-nil at = refl

module _ (low high : ℕ) where
  abbrev out : List ℕ → ℕ → Bool
  out xs i = not (within low high (get_or xs i 0))

  -- ---- two lists, one behind the other

  left : (a b : List ℕ) (i : ℕ) → i < length a → out (a ++ b) i ≡ out a i
  left a b i h = ap (λ (x : ℕ). not (within low high x)) (get_or-append a b 0 i h)

  right : (a b : List ℕ) (i : ℕ) → out (a ++ b) (length a + i) ≡ out b i
  right a b i = ap (λ (x : ℕ). not (within low high x)) (get_or-append-add a b i 0)

  -- none in the first, and none before place i of the second
  clear : (a b : List ℕ) (i : ℕ) → Fails (length a) (out a) → Fails i (out b) → Fails (length a + i) (out (a ++ b))
  clear a b i p q = λ j h. ⊎_elim (first j) (second j h) (lt-or-le j (length a))
    where
      first : (j : ℕ) → j < length a → out (a ++ b) j ≡ false
      first j l = left a b j l ∙ p j l

      second : (j : ℕ) → j < length a + i → length a ≤ j → out (a ++ b) j ≡ false
      second j h l =
          let k : ℕ = j - length a in
          ap (out (a ++ b)) {x = j} {y = length a + k} (omega arith) ∙ right a b k ∙ q k (omega arith)

  -- none in a list whose first field stands at `at`
  fails : (at : ℕ) (a : List ℕ) → outside_in a at low high ≡ None → Fails (length a) (out a)
  unfolding wrong_in
  fails at a e = lowest-none (length a) (out a) (offset-none (λ i. at + 2 * i) (lowest (length a) (out a)) e)

  pub outside-none-more : (at : ℕ) (a b : List ℕ) → outside_in a at low high ≡ None → outside_in b (at + 2 * length a) low high ≡ None
      → outside_in (a ++ b) at low high ≡ None
  unfolding wrong_in
  outside-none-more at a b p q =
      let all = clear a b (length b) (fails at a p) (fails (at + 2 * length a) b q) in
      ap (offset (λ i. at + 2 * i))
      (ap (λ (n : ℕ). lowest n (out (a ++ b))) (length-append a b) ∙ lowest-fails (length a + length b) (out (a ++ b)) all)

  pub outside-some-more : (at : ℕ) (a b d : List ℕ) (p : ℕ) → outside_in a at low high ≡ None
      → outside_in b (at + 2 * length a) low high ≡ Some p → outside_in ((a ++ b) ++ d) at low high ≡ Some p
  unfolding wrong_in
  outside-some-more at a b d p h k =
      let o = offset-some (λ i. at + 2 * length a + 2 * i) (lowest (length b) (out b)) p k in
      let i : ℕ = o.0 in
      let s = lowest-some (length b) (out b) i o.1 in
      let i< = s.below in
      let la = length-append a b in
      let ld = length-append (a ++ b) d in
      let all : List ℕ = (a ++ b) ++ d in
      let before = clear a b i (fails at a h) s.least in
      let found : Lowest (length all) (out all) (length a + i) = record {
        below = omega arith;
        passes = left (a ++ b) d (length a + i) (omega arith) ∙ right a b i ∙ s.passes;
        least = λ j l. left (a ++ b) d j (omega arith) ∙ before j l;
      } in
      let e = o.2 in
      ap (offset (λ i. at + 2 * i)) (lowest-is (length all) (out all) (length a + i) found)
      ∙ ap Some {x = at + 2 * (length a + i)} {y = p} (omega arith)

-- ---- a grid, row by row

-- the rows before i, row i, and those behind it
record Rest (i k m : ℕ) (g : Grid) : Type 0 where
  more : List ℕ
  split : flat (sized_grid (i + 1 + k) m g) ≡ (flat (sized_grid i m g) ++ sized m (get_or g i [])) ++ more

rows_behind : (i k m : ℕ) (g : Grid) → Rest i k m g
rows_behind i zero m g =
    let front : List ℕ = flat (sized_grid i m g) ++ sized m (get_or g i []) in
    record {
      more = [];
      split = ap (λ (n : ℕ). flat (sized_grid n m g)) {x = i + 1 + zero} {y = i + 1} (omega arith)
          ∙ sized-flat-more i m g
          ∙ sym (append-nil front);
    }
rows_behind i (suc k) m g =
    let r = rows_behind i k m g in
    let row : List ℕ = sized m (get_or g (i + 1 + k) []) in
    let front : List ℕ = flat (sized_grid i m g) ++ sized m (get_or g i []) in
    record {
      more = r.more ++ row;
      split = ap (λ (n : ℕ). flat (sized_grid n m g)) {x = i + 1 + suc k} {y = i + 1 + k + 1} (omega arith)
          ∙ sized-flat-more (i + 1 + k) m g
          ∙ ap (λ (xs : List ℕ). xs ++ row) r.split
          ∙ append_assoc front r.more row;
    }

module _ (low high at m : ℕ) (g : Grid) where
  -- the search of the first i rows
  abbrev pub rows : ℕ → Option ℕ
  rows i = outside_in (flat (sized_grid i m g)) at low high

  -- the search of row i
  abbrev pub row : ℕ → Option ℕ
  row i = outside_in (sized m (get_or g i [])) (at + 2 * (i * m)) low high

  row_at : (i : ℕ) → outside_in (sized m (get_or g i [])) (at + 2 * length (flat (sized_grid i m g))) low high ≡ row i
  row_at i = ap (λ (k : ℕ). outside_in (sized m (get_or g i [])) (at + 2 * k) low high) (sized-flat-length i m g)

  pub rows-first : rows 0 ≡ None
  rows-first = ap (λ (xs : List ℕ). outside_in xs at low high) (sym (sized-flat-none m g)) ∙ wrong-nil low high false at

  pub rows_more : (i : ℕ) → rows i ≡ None → row i ≡ None → rows (i + 1) ≡ None
  rows_more i h k =
      ap (λ (xs : List ℕ). outside_in xs at low high) (sized-flat-more i m g)
      ∙ outside-none-more low high at (flat (sized_grid i m g)) (sized m (get_or g i [])) h (row_at i ∙ k)

  pub rows-found : (i n p : ℕ) → i < n → rows i ≡ None → row i ≡ Some p → rows n ≡ Some p
  rows-found i n p l h k =
      let r = rows_behind i (n - (i + 1)) m g in
      ap rows {x = n} {y = i + 1 + (n - (i + 1))} (omega arith)
      ∙ ap (λ (xs : List ℕ). outside_in xs at low high) r.split
      ∙ outside-some-more low high at (flat (sized_grid i m g)) (sized m (get_or g i [])) r.more p h (row_at i ∙ k)

-- a row of a sheet in memory
-- a row of a sheet in memory has 24 cells
pub row-long : (s : Sheet) → Shaped 32 24 (grid_of s) → (i : ℕ) → i < 32 → length (get_or s.rows i no_row).cells ≡ 24
row-long s h i l = ap length (sym (row_is s i)) ∙ h.row i l

pub row_of : (low high at m : ℕ) (s : Sheet) (i : ℕ)
    → outside_in (sized m (get_or s.rows i no_row).cells) (at + 2 * (i * m)) low high ≡ row low high at m (grid_of s) i
row_of low high at m s i = ap (λ (xs : List ℕ). outside_in (sized m xs) (at + 2 * (i * m)) low high) (sym (row_is s i))
