-- The laws of finite sums. Everything else goes by these laws and leaves sums shut.
use mathlib.Core.Path.{◌≡◌, refl, sym, ap}
use Prim.Native.Nat.{ℕ, zero, suc, ◌+◌, ◌≤◌, ◌<◌, zero-le}
use native.Mathlib.Nat.{le_refl, le_of_eq, le_antisymm}
use native.Mathlib.Decide.{ℕ_discrete, dec_le}
use native.Mathlib.Omega.{arith}
use Rattle.fairness.specs.Sums.{sum}

pub sum-zero : (f : ℕ → ℕ) → sum 0 f ≡ 0
unfolding sum
sum-zero f = refl

pub sum-suc : (n : ℕ) (f : ℕ → ℕ) → sum (suc n) f ≡ sum n f + f n
unfolding sum
sum-suc n f = refl

-- termwise
pub sum-le : (n : ℕ) (f g : ℕ → ℕ) → ((i : ℕ) → i < n → f i ≤ g i) → sum n f ≤ sum n g
unfolding sum
sum-le zero f g h = le_refl 0
sum-le (suc n) f g h = omega (arith, sum-le n f g (λ i l. h i (omega arith)), h n (le_refl (suc n)))

pub sum-eq : (n : ℕ) (f g : ℕ → ℕ) → ((i : ℕ) → i < n → f i ≡ g i) → sum n f ≡ sum n g
unfolding sum
sum-eq zero f g h = refl
sum-eq (suc n) f g h = omega (arith, sum-eq n f g (λ i l. h i (omega arith)), h n (le_refl (suc n)))

pub sum-add : (n : ℕ) (f g : ℕ → ℕ) → sum n (λ i. f i + g i) ≡ sum n f + sum n g
unfolding sum
sum-add zero f g = refl
sum-add (suc n) f g = omega (arith, sum-add n f g)

pub sum-none : (n : ℕ) (f : ℕ → ℕ) → ((i : ℕ) → i < n → f i ≡ 0) → sum n f ≡ 0
unfolding sum
sum-none zero f h = refl
sum-none (suc n) f h = omega (arith, sum-none n f (λ i l. h i (omega arith)), h n (le_refl (suc n)))

-- the order of two sums
pub sum-swap : (n m : ℕ) (f : ℕ → ℕ → ℕ) → sum n (λ i. sum m (λ j. f i j)) ≡ sum m (λ j. sum n (λ i. f i j))
unfolding sum
sum-swap zero m f = sym (sum-none m (λ j. 0) (λ j l. refl))
sum-swap (suc n) m f = omega (arith, sum-swap n m f, sum-add m (λ j. sum n (λ i. f i j)) (λ j. f n j))

-- a sum with one term that counts
pub sum_one : (n : ℕ) (f : ℕ → ℕ) (k : ℕ) → k < n → ((i : ℕ) → i < n → (i ≡ k → ⊥) → f i ≡ 0) → sum n f ≡ f k
unfolding sum
sum_one zero f k l h = absurd (omega arith)
sum_one (suc n) f k l h = go (λ b. sum_one n f k b (λ i c. h i (omega arith))) (ℕ_discrete n k)
  where
    go : (k < n → sum n f ≡ f k) → Dec (n ≡ k) → sum n f + f n ≡ f k
    go ih (yes e) = omega (arith, sum-none n f (λ i b. h i (omega arith) (λ q. omega arith)), ap f e)
    go ih (no d) = omega (arith, ih (omega arith), h n (le_refl (suc n)) d)

-- a longer sum is no less
pub sum_mono : (n m : ℕ) (f : ℕ → ℕ) → n ≤ m → sum n f ≤ sum m f
unfolding sum
sum_mono n zero f l = omega (arith, ap (λ (x : ℕ). sum x f) (le_antisymm l zero-le))
sum_mono n (suc m) f l = go (λ b. sum_mono n m f b) (dec_le n m)
  where
    go : (n ≤ m → sum n f ≤ sum m f) → Dec (n ≤ m) → sum n f ≤ sum m f + f m
    go ih (yes b) = omega (arith, ih b)
    go ih (no b) = le_of_eq (ap (λ (x : ℕ). sum x f) (le_antisymm l (omega arith)))

-- the same added to both
pub sum-add-le : (n : ℕ) (f g c : ℕ → ℕ) → sum n f ≤ sum n g → sum n (λ i. f i + c i) ≤ sum n (λ i. g i + c i)
sum-add-le n f g c h = omega (arith, sum-add n f c, sum-add n g c)

-- the first term apart
pub sum-shift : (n : ℕ) (f : ℕ → ℕ) → sum (suc n) f ≡ f 0 + sum n (λ i. f (suc i))
unfolding sum
sum-shift zero f = omega arith
sum-shift (suc n) f = omega (arith, sum-shift n f)

-- at most one for each
pub sum-most : (n : ℕ) (f : ℕ → ℕ) → ((i : ℕ) → i < n → f i ≤ 1) → sum n f ≤ n
unfolding sum
sum-most zero f h = le_refl 0
sum-most (suc n) f h = omega (arith, sum-most n f (λ i l. h i (omega arith)), h n (le_refl (suc n)))

-- a term is at most the sum
pub sum-term : (n : ℕ) (f : ℕ → ℕ) (k : ℕ) → k < n → f k ≤ sum n f
unfolding sum
sum-term zero f k l = absurd (omega arith)
sum-term (suc n) f k l = go (λ b. sum-term n f k b) (ℕ_discrete k n)
  where
    go : (k < n → f k ≤ sum n f) → Dec (k ≡ n) → f k ≤ sum n f + f n
    go ih (yes e) = omega (arith, ap f e)
    go ih (no d) = omega (arith, ih (omega arith))

-- termwise, and strictly at k
pub sum_lt : (n : ℕ) (f g : ℕ → ℕ) (k : ℕ) → ((i : ℕ) → i < n → f i ≤ g i) → k < n → f k < g k → sum n f < sum n g
unfolding sum
sum_lt zero f g k h l s = absurd (omega arith)
sum_lt (suc n) f g k h l s = go (λ b. sum_lt n f g k (λ i c. h i (omega arith)) b s) (ℕ_discrete k n)
  where
    go : (k < n → sum n f < sum n g) → Dec (k ≡ n) → sum n f + f n < sum n g + g n
    go ih (yes e) = omega (arith, sum-le n f g (λ i c. h i (omega arith)), s, ap f e, ap g e)
    go ih (no d) = omega (arith, ih (omega arith), h n (le_refl (suc n)))
