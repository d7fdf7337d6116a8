-- A window's cells together, after one of them is written.
use mathlib.Core.Path.{◌≡◌, ap}
use mathlib.Core.Logic.{◌≢◌}
use Prim.Native.Nat.{ℕ, zero, suc, ◌+◌, ◌<◌}
use native.Mathlib.Decide.{ℕ_discrete}
use native.Mathlib.Omega.{arith}
use Rattle.fairness.specs.Sums.{sum}
use Rattle.fairness.proofs.Sums.{sum-suc, sum-eq}
use Rattle.sheet.specs.Sheets.{Written}

-- two sums whose terms differ at k alone
sum-change : (n : ℕ) (f g : ℕ → ℕ) (k : ℕ) → k < n → ((i : ℕ) → i ≢ k → f i ≡ g i) → sum n f + g k ≡ sum n g + f k
sum-change zero f g k l h = absurd (omega arith)
sum-change (suc n) f g k l h = go (λ b. sum-change n f g k b h) (ℕ_discrete n k)
  where
    go : (k < n → sum n f + g k ≡ sum n g + f k) → Dec (n ≡ k) → sum (suc n) f + g k ≡ sum (suc n) g + f k
    go ih (yes e) =
        let same = sum-eq n f g (λ i b. h i (λ q. omega arith)) in
        omega (arith, sum-suc n f, sum-suc n g, same, ap f e, ap g e)
    go ih (no d) = omega (arith, sum-suc n f, sum-suc n g, ih (omega arith), h n d)

-- the window that is written
pub column-here : (n : ℕ) (S R : ℕ → ℕ → ℕ) (i j v : ℕ) → Written S i j v R → i < n
    → sum n (λ a. R a j) + S i j ≡ sum n (λ a. S a j) + v
column-here n S R i j v p l = omega (arith, sum-change n (λ a. R a j) (λ a. S a j) i l (λ a d. p.seats a j d), p.here)
