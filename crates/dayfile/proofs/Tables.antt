-- Lists by index: a run of a table from anywhere, and lists cut or filled to a size.
-- Assumes nothing.
use mathlib.Core.List.{List, [], ◌∷◌, ◌++◌}
use mathlib.Core.Path.{◌≡◌, refl, sym, ◌∙◌, ap, ap₂}
use Prim.Native.Nat.{ℕ, zero, suc, ◌+◌, ◌≤◌, ◌<◌}
use native.Mathlib.Nat.{add-zero}
use native.Mathlib.Omega.{arith}
use lib.ListN.{length, get_or, replicate}
use Rattle.fairness.specs.Leximin.{table}
use Rattle.lists.proofs.Tables.{table-length, table_at, table_same, table-all, table_more}
use Rattle.model.specs.Book.{Grid, Shaped}
use Rattle.dayfile.specs.Memory.{sized, sized_grid}

-- ---- a run: g at, g (at + 1), .., m of them

module _ {A : Type 0} where
  unfoldable pub run : (ℕ → A) → ℕ → ℕ → List A
  run g at zero = []
  run g at (suc m) = g at ∷ run g (suc at) m

  pub run-table : (g : ℕ → A) (at m : ℕ) → run g at m ≡ table m (λ i. g (at + i))
  unfolding run table
  run-table g at zero = refl
  run-table g at (suc m) =
      ap₂ (λ (x : A) (xs : List A). x ∷ xs) (ap g (sym (add-zero at)))
      (run-table g (suc at) m
      ∙ table_same m (λ i. g (suc at + i)) (λ i. g (at + suc i)) (λ i p. ap g {x = suc at + i} {y = at + suc i} (omega arith)))

  pub table-run : (n : ℕ) (g : ℕ → A) → table n g ≡ run g 0 n
  table-run n g =
      sym (run-table g 0 n ∙ table_same n (λ i. g (0 + i)) g (λ i p. ap g {x = 0 + i} {y = i} (omega arith)))

  pub run_length : (g : ℕ → A) (at m : ℕ) → length (run g at m) ≡ m
  run_length g at m = ap length (run-table g at m) ∙ table-length m (λ i. g (at + i))

  -- the same elements, wherever the counts start
  pub run-same : (g h : ℕ → A) (a b m : ℕ) → ((i : ℕ) → i < m → g (a + i) ≡ h (b + i)) → run g a m ≡ run h b m
  run-same g h a b m e = run-table g a m ∙ table_same m (λ i. g (a + i)) (λ i. h (b + i)) e ∙ sym (run-table h b m)

  pub run-append : (g : ℕ → A) (at m k : ℕ) → run g at (m + k) ≡ run g at m ++ run g (at + m) k
  unfolding run
  run-append g at zero k =
      ap (run g at) {x = zero + k} {y = k} (omega arith)
      ∙ ap (λ (n : ℕ). run g n k) {x = at} {y = at + zero} (omega arith)
  run-append g at (suc m) k =
      ap (run g at) {x = suc m + k} {y = suc (m + k)} (omega arith)
      ∙ ap (λ (xs : List A). g at ∷ xs)
      (run-append g (suc at) m k
      ∙ ap (λ (n : ℕ). run g (suc at) m ++ run g n k) {x = suc at + m} {y = at + suc m} (omega arith))

-- ---- sizes

pub sized-length : (n : ℕ) (xs : List ℕ) → length (sized n xs) ≡ n
unfolding sized
sized-length n xs = table-length n (λ i. get_or xs i 0)

pub sized-one : (x : ℕ) → sized 1 (x ∷ []) ≡ x ∷ []
unfolding sized table
sized-one x = refl

-- no numbers in an array of zeros
pub sized-none : (n : ℕ) → sized n [] ≡ replicate n 0
unfolding sized table
sized-none zero = refl
sized-none (suc n) = ap (λ (xs : List ℕ). 0 ∷ xs) (sized-none n)

pub sized-at : (n : ℕ) (xs : List ℕ) (i : ℕ) → i < n → get_or (sized n xs) i 0 ≡ get_or xs i 0
unfolding sized
sized-at n xs i h = table_at n (λ k. get_or xs k 0) i 0 h

pub sized-more : (n : ℕ) (xs : List ℕ) → sized (n + 1) xs ≡ sized n xs ++ (get_or xs n 0 ∷ [])
unfolding sized
sized-more n xs = table_more n (λ i. get_or xs i 0)

-- a list that is held in a larger array
pub sized-again : (n m : ℕ) (xs : List ℕ) → n ≤ m → length xs ≡ n → sized n (sized m xs) ≡ xs
unfolding sized
sized-again n m xs h e =
    table_same n (λ i. get_or (sized m xs) i 0) (λ i. get_or xs i 0) (λ i p. sized-at m xs i (omega arith)) ∙ table-all n xs 0 e

pub sized_row : (n m : ℕ) (g : Grid) (i : ℕ) → i < n → get_or (sized_grid n m g) i [] ≡ sized m (get_or g i [])
unfolding sized_grid
sized_row n m g i h = table_at n (λ k. sized m (get_or g k [])) i [] h

pub sized-grid-more : (n m : ℕ) (g : Grid) → sized_grid (n + 1) m g ≡ sized_grid n m g ++ (sized m (get_or g n []) ∷ [])
unfolding sized_grid
sized-grid-more n m g = table_more n (λ i. sized m (get_or g i []))

pub sized-shaped : (n m : ℕ) (g : Grid) → Shaped n m (sized_grid n m g)
unfolding sized_grid
sized-shaped n m g =
    record {
      rows = table-length n (λ i. sized m (get_or g i []));
      row = λ i h. ap length (sized_row n m g i h) ∙ sized-length m (get_or g i []);
    }

pub sized-grid-again : (n m N M : ℕ) (g : Grid) → n ≤ N → m ≤ M → Shaped n m g → sized_grid n m (sized_grid N M g) ≡ g
unfolding sized_grid
sized-grid-again n m N M g h k s =
    table_same n (λ i. sized m (get_or (sized_grid N M g) i [])) (λ i. get_or g i [])
    (λ i p. ap (sized m) (sized_row N M g i (omega arith)) ∙ sized-again m M (get_or g i []) k (s.row i p))
    ∙ table-all n g [] s.rows
