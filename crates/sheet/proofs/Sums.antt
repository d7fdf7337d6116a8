-- A loop that adds up cells of 16 bits.
use mathlib.Core.Path.{◌≡◌, sym, ap}
use Prim.Native.Nat.{ℕ, zero, suc, ◌+◌, ◌*◌, ◌≤◌, ◌<◌}
use native.Mathlib.Nat.{mul-suc}
use native.Mathlib.Numerals.{add-one}
use native.Mathlib.Omega.{arith}
use Rattle.fairness.specs.Sums.{sum}
use Rattle.fairness.proofs.Sums.{sum-zero, sum-suc}

-- n cells up to b add up to no more than b each
pub sum_bound : (b n : ℕ) (f : ℕ → ℕ) → ((i : ℕ) → i < n → f i ≤ b) → sum n f ≤ b * n
sum_bound b zero f h = omega (arith, sum-zero f)
sum_bound b (suc n) f h = omega (arith, sum-suc n f, mul-suc b n, h n (omega arith), sum_bound b n f (λ i l. h i (omega arith)))

-- t is the sum of the first k of n cells
pub record Summed (f : ℕ → ℕ) (n k t : ℕ) : Type 0 where
  pub within : k ≤ n
  pub bound : t ≤ 65535 * k
  pub total : t ≡ sum k f

module _ (f : ℕ → ℕ) (n : ℕ) where
  pub first : Summed f n 0 0
  first = record { within = omega arith; bound = omega arith; total = sym (sum-zero f) }

  pub next : (k t : ℕ) → Summed f n k t → k < n → f k < 65536 → Summed f n (k + 1) (t + f k)
  next k t s l h = record {
    within = omega arith;
    bound = omega (arith, s.bound);
    total = rw add-one (omega (arith, s.total, sum-suc k f));
  }

  pub last : (k t : ℕ) → Summed f n k t → n ≤ k → t ≡ sum n f
  last k t s l = let e : k ≡ n = omega (arith, s.within) in omega (arith, s.total, ap (λ (x : ℕ). sum x f) e)

  pub last-most : (k t : ℕ) → Summed f n k t → n ≤ k → t ≤ 65535 * n
  last-most k t s l = omega (arith, s.within, s.bound)
