-- What the machine's operations on 32 bits do to a set: what each function of the crate ensures.
use mathlib.Core.Path.{◌≡◌, refl, ap, ◌∙◌}
use mathlib.Core.Logic.{◌≢◌}
use Prim.Native.Nat.{ℕ, zero, suc, ◌+◌, ◌-◌, ◌*◌, ◌/◌, ◌%◌, ◌^◌, ◌<◌, ◌≤◌, min, max}
use native.Mathlib.Nat.{one-mul, mod-eq_of_lt, pow-suc, pow-succ', div-div-eq-div-mul}
use native.Mathlib.Decide.{dec_lt}
use native.Mathlib.Omega.{arith}
use lib.Pow.{pow-lt, pow_pos, pow_mono, ones_lt}
use lib.Dec.{eqb}
use lib.Bits.{bit_and, bit_or, and_step, or_step, and_self, and_mask}
use lib.Count.{ones, ones_step, count_trailing_zeros, under}
use Rattle.masks.specs.Sets.{bit, In, count_below, Inserted, Removed, Lowest, Full}
use Rattle.masks.proofs.Laws.{bit-lt, bit-zero, bit_high, in_pos}

-- ---- digit by digit

pub bit-or : (a b i : ℕ) → bit (bit_or a b) i ≡ max (bit a i) (bit b i)
unfolding bit
bit-or a b zero = omega (arith, or_step a b)
bit-or a b (suc i) = let e : bit_or a b / 2 ≡ bit_or (a / 2) (b / 2) = omega (arith, or_step a b) in rw e (bit-or (a / 2) (b / 2) i)

pub bit-and : (a b i : ℕ) → bit (bit_and a b) i ≡ min (bit a i) (bit b i)
unfolding bit
bit-and a b zero = omega (arith, and_step a b)
bit-and a b (suc i) = let e : bit_and a b / 2 ≡ bit_and (a / 2) (b / 2) = omega (arith, and_step a b) in rw e (bit-and (a / 2) (b / 2) i)

bit_not : (n a i : ℕ) → a < 2 ^ n → i < n → bit ((2 ^ n - 1) - a) i ≡ 1 - bit a i
unfolding bit
bit_not zero a i h l = absurd (omega arith)
bit_not (suc n) a zero h l = omega (arith, pow-suc 2 n)
bit_not (suc n) a (suc i) h l =
    let p = pow-suc 2 n in
    let e : ((2 ^ suc n - 1) - a) / 2 ≡ (2 ^ n - 1) - a / 2 = omega arith in
    rw e (bit_not n (a / 2) i (omega arith) (omega arith))

bit-pow : (j : ℕ) → bit (2 ^ j) j ≡ 1
unfolding bit
bit-pow zero = refl
bit-pow (suc j) = let e : 2 ^ suc j / 2 ≡ 2 ^ j = omega (arith, pow-suc 2 j) in rw e (bit-pow j)

bit-pow-other : (j k : ℕ) → k ≢ j → bit (2 ^ j) k ≡ 0
unfolding bit
bit-pow-other zero zero n = absurd (n refl)
bit-pow-other zero (suc k) n = bit-zero k
bit-pow-other (suc j) zero n = omega (arith, pow-suc 2 j)
bit-pow-other (suc j) (suc k) n =
    let e : 2 ^ suc j / 2 ≡ 2 ^ j = omega (arith, pow-suc 2 j) in
    rw e (bit-pow-other j k (λ q. n (ap suc q)))

-- the machine's `set >> j`
pub bit-shr : (m j : ℕ) → bit m j ≡ (m / 2 ^ j) % 2
unfolding bit
bit-shr m zero = omega arith
bit-shr m (suc j) = rw (pow-succ' 2 j, ← div-div-eq-div-mul m 2 (2 ^ j)) (bit-shr (m / 2) j)

-- the machine's `1 << j` at w bits
shifted : (w j : ℕ) → j < w → (1 * 2 ^ j) % 2 ^ w ≡ 2 ^ j
shifted w j h = omega (arith, mod-eq_of_lt (pow-lt h), one-mul (2 ^ j), ap (λ (x : ℕ). x % 2 ^ w) (one-mul (2 ^ j)))

-- ---- the functions

pub has_is : (m i : ℕ) → eqb (bit_and (m / 2 ^ i) 1) 1 ≡ eqb (bit m i) 1
has_is m i = rw (bit-shr m i) (ap (λ (n : ℕ). eqb n 1) (and_mask (m / 2 ^ i) 1))

pub insert-is : (m i : ℕ) → i < 32 → Inserted m i (bit_or m ((1 * 2 ^ i) % 4294967296))
insert-is m i h = rw (shifted 32 i h) (record {
  here = omega (arith, bit-or m (2 ^ i) i, bit-pow i, bit-lt m i);
  others = λ k n. omega (arith, bit-or m (2 ^ i) k, bit-pow-other i k n);
})

pub minus_is : (a b : ℕ) → a < 2 ^ 32 → b < 2 ^ 32 → (k : ℕ) → bit (bit_and a (4294967295 - b)) k ≡ bit a k - bit b k
minus_is a b ha hb k =
    elim (dec_lt k 32) [
      | yes h ↦ omega (arith, bit-and a (4294967295 - b) k, bit_not 32 b k hb h, bit-lt a k, bit-lt b k)
      | no h ↦ omega (arith, bit-and a (4294967295 - b) k, bit_high 32 a k ha (omega arith))
    ]

pub remove-is : (m i : ℕ) → m < 2 ^ 32 → i < 32 → Removed m i (bit_and m (4294967295 - (1 * 2 ^ i) % 4294967296))
remove-is m i hm h = rw (shifted 32 i h) (record {
  here = omega (arith, minus_is m (2 ^ i) hm (pow-lt h) i, bit-pow i, bit-lt m i);
  others = λ k n. omega (arith, minus_is m (2 ^ i) hm (pow-lt h) k, bit-pow-other i k n);
})

-- `1 << n` of 64 bits, for n up to 32
pub power-is : (n : ℕ) → n ≤ 32 → ((1 * 2 ^ n) % 2 ^ 64 ≡ 2 ^ n) × ((0 < 2 ^ n) × (2 ^ n ≤ 2 ^ 32))
power-is n h = (shifted 64 n (omega arith), (pow_pos n, pow_mono h))

pub full_is : (n : ℕ) → n ≤ 32 → Full n ((1 * 2 ^ n) % 2 ^ 64 - 1)
full_is n h = rw (power-is n h).0 (record {
  inside = λ k l. let e : (2 ^ n - 1) - 0 ≡ 2 ^ n - 1 = omega arith in omega (arith, rw e at (bit_not n 0 k (pow_pos n) l), bit-zero k);
  outside = λ k l. bit_high n (2 ^ n - 1) k (ones_lt n) l;
})

-- a number with n digits that are not all 0, and the number that the machine's `trailing_zeros` finds there
record Trailing (n m r : ℕ) : Type 0 where
  small : r < n
  here : In r m
  least : (k : ℕ) → k < r → bit m k ≡ 0

trailing : (n m : ℕ) → 0 < m → m < 2 ^ n → Trailing n m (count_trailing_zeros n m)
unfolding count_trailing_zeros bit
trailing zero m p h = absurd (omega arith)
trailing (suc n) m p h = go (m % 2) refl (λ q. trailing n (m / 2) q (omega (arith, pow-suc 2 n)))
  where
    go : (d : ℕ) → m % 2 ≡ d → (0 < m / 2 → Trailing n (m / 2) (count_trailing_zeros n (m / 2)))
        → Trailing (suc n) m (under d (count_trailing_zeros n (m / 2)))
    go zero e rest = let t = rest (omega arith) in record { small = omega (arith, t.small); here = t.here; least = below t.least }
      where
        below : ((k : ℕ) → k < count_trailing_zeros n (m / 2) → bit (m / 2) k ≡ 0) → (k : ℕ) → k < suc (count_trailing_zeros n (m / 2)) →
            bit m k ≡ 0
        below f zero l = e
        below f (suc k) l = f k (omega arith)
    go (suc d) e rest = record { small = omega arith; here = omega arith; least = λ k l. absurd (omega arith) }

-- a set that is not empty has a lowest seat
pub lowest-is : (m : ℕ) → 0 < m → m < 2 ^ 32 → Lowest m (count_trailing_zeros 32 m)
lowest-is m p h = let t = trailing 32 m p h in record { small = t.small; here = t.here; least = t.least }

-- the machine's `m & (m - 1)` is m without its lowest seat l
pub drop-lowest : (l m : ℕ) → In l m → ((k : ℕ) → k < l → bit m k ≡ 0) → Removed m l (bit_and m (m - 1))
unfolding bit
drop-lowest zero m e f =
    let h : (m - 1) / 2 ≡ m / 2 = omega arith in
    let q : bit_and m (m - 1) / 2 ≡ m / 2 = omega (arith, and_step m (m - 1), ap (bit_and (m / 2)) h, and_self (m / 2)) in
    record { here = omega (arith, and_step m (m - 1)); others = others q }
  where
    others : bit_and m (m - 1) / 2 ≡ m / 2 → (k : ℕ) → k ≢ zero → bit (bit_and m (m - 1)) k ≡ bit m k
    others q zero d = absurd (d refl)
    others q (suc k) d = ap (λ (x : ℕ). bit x k) q
drop-lowest (suc l) m e f =
    let z : m % 2 ≡ 0 = f zero (omega arith) in
    let h : (m - 1) / 2 ≡ m / 2 - 1 = omega (arith, in_pos (m / 2) l e) in
    let q : bit_and m (m - 1) / 2 ≡ bit_and (m / 2) (m / 2 - 1) = omega (arith, and_step m (m - 1), ap (bit_and (m / 2)) h) in
    let r = drop-lowest l (m / 2) e (λ k i. f (suc k) (omega arith)) in
    record { here = ap (λ (x : ℕ). bit x l) q ∙ r.here; others = others z q r.others }
  where
    others : m % 2 ≡ 0 → bit_and m (m - 1) / 2 ≡ bit_and (m / 2) (m / 2 - 1)
        → ((k : ℕ) → k ≢ l → bit (bit_and (m / 2) (m / 2 - 1)) k ≡ bit (m / 2) k)
        → (k : ℕ) → k ≢ suc l → bit (bit_and m (m - 1)) k ≡ bit m k
    others z q r zero d = omega (arith, and_step m (m - 1))
    others z q r (suc k) d = ap (λ (x : ℕ). bit x k) q ∙ r k (λ p. d (ap suc p))

count-step : (n m : ℕ) → count_below (suc n) m ≡ m % 2 + count_below n (m / 2)
unfolding bit count_below
count-step zero m = omega arith
count-step (suc n) m = omega (arith, count-step n m)

-- the machine's `count_ones`
pub ones-count : (n m : ℕ) → m < 2 ^ n → ones m ≡ count_below n m
unfolding ones count_below
ones-count zero m h = let e : m ≡ 0 = omega arith in rw e refl
ones-count (suc n) m h = omega (arith, ones_step m, ones-count n (m / 2) (omega (arith, pow-suc 2 n)), count-step n m)

-- what the proofs of the functions use
pub ruleset operations = (bit-or, bit-and, has_is, minus_is, full_is, lowest-is, ones-count)
