-- Lists whose elements all have a property, or are all distinct; sums and tables.
use mathlib.Core.Path.{◌≡◌, refl, sym, ap, ap₂, subst}
use mathlib.Core.List.{List, [], ◌∷◌, ◌++◌, map}
use Prim.Native.Nat.{ℕ, zero, suc, ◌+◌, ◌≤◌, ◌<◌, zero-le}
use native.Mathlib.Decide.{ℕ_discrete}
use native.Mathlib.Omega.{arith}
use lib.ListN.{length}
use Rattle.fairness.specs.Sums.{sum, keep}
use Rattle.fairness.specs.Leximin.{table}
use Rattle.fairness.specs.Exchange.{All, Distinct}
use Rattle.fairness.proofs.Sums.{sum-zero, sum-add, sum-none, sum-most, sum-shift}
use Rattle.fairness.proofs.Decide.{sum-at, keep-no}

-- ---- every element has P

pub All-map : {A : Type 0} (P Q : A → Type 0) → ((x : A) → P x → Q x) → (xs : List A) → All P xs → All Q xs
All-map P Q f [] a = tt
All-map P Q f (x ∷ xs) a = (f x a.0, All-map P Q f xs a.1)

pub All-end : {A : Type 0} (P : A → Type 0) (xs : List A) (y : A) → All P xs → P y → All P (xs ++ (y ∷ []))
All-end P [] y a p = (p, tt)
All-end P (x ∷ xs) y a p = (a.0, All-end P xs y a.1 p)

-- ---- no element twice

pub Distinct-end : (xs : List ℕ) (y : ℕ) → Distinct xs → All (λ x. x ≡ y → ⊥) xs → Distinct (xs ++ (y ∷ []))
Distinct-end [] y d a = (tt, tt)
Distinct-end (x ∷ xs) y d a = (All-end (λ z. x ≡ z → ⊥) xs y d.0 a.0, Distinct-end xs y d.1 a.1)

-- how often i stands in a list
occurrences : ℕ → List ℕ → ℕ
occurrences i [] = 0
occurrences i (x ∷ xs) = keep (ℕ_discrete i x) 1 + occurrences i xs

occurrences-none : (i : ℕ) (xs : List ℕ) → All (λ x. i ≡ x → ⊥) xs → occurrences i xs ≡ 0
unfolding occurrences
occurrences-none i [] a = refl
occurrences-none i (x ∷ xs) a = omega (arith, keep-no (ℕ_discrete i x) 1 a.0, occurrences-none i xs a.1)

occurrences-most : (i : ℕ) (xs : List ℕ) → Distinct xs → occurrences i xs ≤ 1
unfolding occurrences
occurrences-most i [] d = zero-le
occurrences-most i (x ∷ xs) d = go (occurrences-most i xs d.1) (ℕ_discrete i x)
  where
    go : occurrences i xs ≤ 1 → (e : Dec (i ≡ x)) → keep e 1 + occurrences i xs ≤ 1
    go ih (yes e) = omega (arith, occurrences-none i xs (subst (λ (z : ℕ). All (λ y. z ≡ y → ⊥) xs) (sym e) d.0))
    go ih (no e) = omega arith

occurrences-sum : (n : ℕ) (xs : List ℕ) → All (λ x. x < n) xs → sum n (λ i. occurrences i xs) ≡ length xs
unfolding occurrences
occurrences-sum n [] a = sum-none n (λ i. 0) (λ i l. refl)
occurrences-sum n (x ∷ xs) a =
    omega (
      arith,
      sum-add n (λ i. keep (ℕ_discrete i x) 1) (λ i. occurrences i xs),
      sum-at n x 1 a.0,
      occurrences-sum n xs a.1,
    )

-- of the numbers below n, a list without repetition has no more than n
pub Distinct-length : (n : ℕ) (xs : List ℕ) → Distinct xs → All (λ x. x < n) xs → length xs ≤ n
Distinct-length n xs d a =
    omega (arith, occurrences-sum n xs a, sum-most n (λ i. occurrences i xs) (λ i l. occurrences-most i xs d))

-- ---- the sum of f over the elements

unfoldable pub list_sum : {A : Type 0} → (A → ℕ) → List A → ℕ
list_sum f [] = 0
list_sum f (x ∷ xs) = f x + list_sum f xs

pub map-sum : {A : Type 0} (f : A → ℕ) (g : ℕ → ℕ) (xs : List A) → list_sum g (map f xs) ≡ list_sum (λ x. g (f x)) xs
unfolding list_sum
map-sum f g [] = refl
map-sum f g (x ∷ xs) = ap (λ (z : ℕ). g (f x) + z) (map-sum f g xs)

-- every number is at most the sum
pub All-sum : (b : ℕ) (xs : List ℕ) → list_sum (λ x. x) xs ≤ b → All (λ x. x ≤ b) xs
unfolding list_sum
All-sum b [] h = tt
All-sum b (x ∷ xs) h = (omega arith, All-sum b xs (omega arith))

-- ---- tables

pub table-sum : {A : Type 0} (n : ℕ) (f : ℕ → A) (g : A → ℕ) → list_sum g (table n f) ≡ sum n (λ i. g (f i))
unfolding table list_sum
table-sum zero f g = sym (sum-zero _)
table-sum (suc n) f g = omega (arith, table-sum n (λ i. f (suc i)) g, sum-shift n (λ i. g (f i)))

pub table-All : {A : Type 0} (P : A → Type 0) (n : ℕ) (f : ℕ → A) → ((i : ℕ) → i < n → P (f i)) → All P (table n f)
unfolding table
table-All P zero f h = tt
table-All P (suc n) f h = (h 0 (omega arith), table-All P n (λ i. f (suc i)) (λ i l. h (suc i) (omega arith)))

pub table-length : {A : Type 0} (n : ℕ) (f : ℕ → A) → length (table n f) ≡ n
unfolding table
table-length zero f = refl
table-length (suc n) f = ap suc (table-length n (λ i. f (suc i)))

pub table_same : {A : Type 0} (n : ℕ) (f g : ℕ → A) → ((i : ℕ) → i < n → f i ≡ g i) → table n f ≡ table n g
unfolding table
table_same zero f g e = refl
table_same (suc n) f g e =
    ap₂ (λ x xs. x ∷ xs) (e 0 (omega arith)) (table_same n (λ i. f (suc i)) (λ i. g (suc i)) (λ i l. e (suc i) (omega arith)))
