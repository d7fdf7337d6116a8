-- The laws of sets of seats. A proof about sets cites these and goes no deeper.
use mathlib.Core.Path.{◌≡◌, refl, sym}
use mathlib.Core.Logic.{◌≢◌, ◌↔◌}
use Prim.Native.Nat.{ℕ, zero, suc, ◌+◌, ◌*◌, ◌/◌, ◌^◌, ◌<◌, ◌≤◌}
use native.Mathlib.Nat.{pow-suc}
use native.Mathlib.Decide.{ℕ_discrete, dec_lt}
use native.Mathlib.Omega.{arith}
use Rattle.masks.specs.Sets.{bit, In, Within, count_below, size_of, Removed}

-- ---- members

pub bit-lt : (m i : ℕ) → bit m i < 2
unfolding bit
bit-lt m zero = omega arith
bit-lt m (suc i) = bit-lt (m / 2) i

-- the empty set has no member
pub bit-zero : (i : ℕ) → bit 0 i ≡ 0
unfolding bit
bit-zero zero = refl
bit-zero (suc i) = bit-zero i

-- a number of n digits has no member from n on
pub bit_high : (n m i : ℕ) → m < 2 ^ n → n ≤ i → bit m i ≡ 0
unfolding bit
bit_high zero m i h l = let e : m ≡ 0 = omega arith in rw e (bit-zero i)
bit_high (suc n) m zero h l = absurd (omega arith)
bit_high (suc n) m (suc i) h l = bit_high n (m / 2) i (omega (arith, pow-suc 2 n)) (omega arith)

-- a member of a mask of 32 bits is below 32
pub in_small : (m i : ℕ) → m < 2 ^ 32 → In i m → i < 32
in_small m i h e = elim (dec_lt i 32) [ yes l ↦ l | no l ↦ absurd (omega (arith, bit_high 32 m i h (omega arith))) ]

-- a set with a member is not empty
pub in_pos : (m i : ℕ) → In i m → 0 < m
unfolding bit
in_pos m zero e = omega arith
in_pos m (suc i) e = omega (arith, in_pos (m / 2) i e)

-- every decided set of numbers below n is that of a mask
pub collected : (n : ℕ) (P : ℕ → Type 0) → ((i : ℕ) → Dec (P i)) → (m : ℕ) × ((i : ℕ) → In i m ↔ ((i < n) × P i))
unfolding bit
collected zero P in? = (0, λ i. (λ e. absurd (omega (arith, bit-zero i)), λ h. absurd (omega (arith, h.0))))
collected (suc n) P in? = go (in? 0) (collected n (λ i. P (suc i)) (λ i. in? (suc i)))
  where
    go : Dec (P 0) → (m : ℕ) × ((i : ℕ) → In i m ↔ ((i < n) × P (suc i))) → (m : ℕ) × ((i : ℕ) → In i m ↔ ((i < suc n) × P i))
    go (yes p) (m, rest) = (1 + 2 * m, at)
      where
        at : (i : ℕ) → In i (1 + 2 * m) ↔ ((i < suc n) × P i)
        at zero = (λ e. (omega arith, p), λ h. omega arith)
        at (suc i) =
            let half : (1 + 2 * m) / 2 ≡ m = omega arith in
            rw half (λ e. let h = (rest i).0 e in (omega (arith, h.0), h.1), λ h. (rest i).1 (omega (arith, h.0), h.1))
    go (no q) (m, rest) = (2 * m, at)
      where
        at : (i : ℕ) → In i (2 * m) ↔ ((i < suc n) × P i)
        at zero = (λ e. absurd (omega arith), λ h. absurd (q h.1))
        at (suc i) =
            let half : (2 * m) / 2 ≡ m = omega arith in
            rw half (λ e. let h = (rest i).0 e in (omega (arith, h.0), h.1), λ h. (rest i).1 (omega (arith, h.0), h.1))

-- ---- sizes

pub count-le : (n m : ℕ) → count_below n m ≤ n
unfolding count_below
count-le zero m = omega arith
count-le (suc n) m = omega (arith, count-le n m, bit-lt m n)

-- where as many are in the set as there are numbers below n, each of these is
pub count-all : (n m i : ℕ) → n ≤ count_below n m → i < n → In i m
unfolding count_below
count-all zero m i h l = absurd (omega arith)
count-all (suc n) m i h l =
    elim (ℕ_discrete i n) [
      | yes q ↦ rw q (omega (arith, bit-lt m n, count-le n m))
      | no q ↦ count-all n m i (omega (arith, bit-lt m n)) (omega arith)
    ]

-- the part of a set below n has no more members than that of a set that it is within
pub count-mono : (n a b : ℕ) → ((k : ℕ) → k < n → bit a k ≤ bit b k) → count_below n a ≤ count_below n b
unfolding count_below
count-mono zero a b f = omega arith
count-mono (suc n) a b f = omega (arith, f n (omega arith), count-mono n a b (λ k l. f k (omega arith)))

-- the same but for j, which is in b and not in a: one more
pub count-more : (n a b j : ℕ) → j < n → ((k : ℕ) → k ≢ j → bit b k ≡ bit a k) → bit b j ≡ bit a j + 1
    → count_below n b ≡ count_below n a + 1
unfolding count_below
count-more zero a b j l f e = absurd (omega arith)
count-more (suc n) a b j l f e =
    elim (ℕ_discrete j n) [
      | yes q ↦
          let up = count-mono n a b (λ k h. omega (arith, f k (omega arith))) in
          let down = count-mono n b a (λ k h. omega (arith, f k (omega arith))) in
          omega (arith, rw q at e)
      | no q ↦ omega (arith, f n (λ p. q (sym p)), count-more n a b j (omega arith) f e)
    ]

-- within, and some j below n is in b and not in a: fewer
pub count_less : (n a b j : ℕ) → j < n → ((k : ℕ) → k < n → bit a k ≤ bit b k) → bit a j < bit b j → count_below n a < count_below n b
unfolding count_below
count_less zero a b j l f h = absurd (omega arith)
count_less (suc n) a b j l f h =
    elim (ℕ_discrete j n) [
      | yes q ↦ omega (arith, rw q at h, count-mono n a b (λ k i. f k (omega arith)))
      | no q ↦ omega (arith, f n (omega arith), count_less n a b j (omega arith) (λ k i. f k (omega arith)) h)
    ]

pub size-le : (m : ℕ) → size_of m ≤ 32
size-le m = count-le 32 m

-- a set within another is no larger
pub within-size : (a b : ℕ) → Within a b → size_of a ≤ size_of b
within-size a b f = count-mono 32 a b (λ k l. f k)

-- and smaller, where a seat of the other is not in it
pub within-less : (a b j : ℕ) → j < 32 → Within a b → bit a j < bit b j → size_of a < size_of b
within-less a b j l f h = count_less 32 a b j l (λ k i. f k) h

-- a seat that was in the set goes: one less. The measure of a loop that takes a set's seats in turn is its size.
pub removed-shrinks : (m i r : ℕ) → i < 32 → In i m → Removed m i r → size_of m ≡ size_of r + 1
removed-shrinks m i r l e s = count-more 32 r m i l (λ k n. sym (s.others k n)) (omega (arith, s.here))
