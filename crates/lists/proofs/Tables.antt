-- Tables: the list of f 0, f 1, .., n of them.
use mathlib.Core.List.{List, [], ◌∷◌, ◌++◌}
use mathlib.Core.Path.{◌≡◌, refl, sym, ◌∙◌, ap}
use Prim.Native.Nat.{ℕ, zero, suc, ◌+◌, ◌≤◌, ◌<◌}
use native.Mathlib.Numerals.{add-one}
use native.Mathlib.Omega.{arith}
use lib.ListN.{length, get_or, get_or-eq_default}
use lib.Seq.{ext_get_or}
use Rattle.fairness.specs.Leximin.{table}
use Rattle.fairness.proofs.Lists.{table-length}
pub use Rattle.fairness.proofs.Lists.{table-length, table-All, table_same}

module _ {A : Type 0} where
  -- ---- the element at an index

  pub table_at : (n : ℕ) (f : ℕ → A) (i : ℕ) (d : A) → i < n → get_or (table n f) i d ≡ f i
  unfolding table
  table_at zero f i d l = absurd (omega arith)
  table_at (suc n) f zero d l = refl
  table_at (suc n) f (suc i) d l = table_at n (λ k. f (suc k)) i d (omega arith)

  -- past the end
  pub table-out : (n : ℕ) (f : ℕ → A) (i : ℕ) (d : A) → n ≤ i → get_or (table n f) i d ≡ d
  table-out n f i d h = get_or-eq_default (table n f) d (let e = table-length n f in omega arith)

  -- ---- when lists are tables

  -- a list of n elements, each that of f
  pub table_is : (n : ℕ) (f : ℕ → A) (xs : List A) (d : A) → length xs ≡ n → ((i : ℕ) → i < n → get_or xs i d ≡ f i) → xs ≡ table n f
  table_is n f xs d e h =
      ext_get_or d xs (table n f) (e ∙ sym (table-length n f)) (λ i l. h i (omega arith) ∙ sym (table_at n f i d (omega arith)))

  -- the elements of a list
  pub table-all : (n : ℕ) (xs : List A) (d : A) → length xs ≡ n → table n (λ i. get_or xs i d) ≡ xs
  table-all n xs d e = sym (table_is n (λ i. get_or xs i d) xs d e (λ i l. refl))

  -- ---- one element more

  table-suc : (n : ℕ) (f : ℕ → A) → table (suc n) f ≡ table n f ++ (f n ∷ [])
  unfolding table
  table-suc zero f = refl
  table-suc (suc n) f = ap (λ (xs : List A). f 0 ∷ xs) (table-suc n (λ i. f (suc i)))

  pub table_more : (n : ℕ) (f : ℕ → A) → table (n + 1) f ≡ table n f ++ (f n ∷ [])
  table_more n f = ap (λ (k : ℕ). table k f) (add-one n) ∙ table-suc n f
