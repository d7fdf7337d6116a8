-- What the lowest number that passes a test is. Assumes nothing.
use mathlib.Core.Path.{◌≡◌, refl, sym, ◌∙◌, ap}
use mathlib.Core.Bool.{Bool, true, false}
use mathlib.Core.Logic.{◌⊎◌, inl, inr}
use Rattle.std.specs.Prelude.{None, Some}
use Prim.Native.Nat.{ℕ, zero, suc, ◌<◌}
use native.Mathlib.Decide.{ℕ_discrete}
use native.Mathlib.Omega.{arith}
use Rattle.model.specs.Lowest.{when, is_some, lowest}

-- k is below n and passes, and nothing below k does
pub record Lowest (n : ℕ) (test : ℕ → Bool) (k : ℕ) : Type 0 where
  pub below : k < n
  pub passes : test k ≡ true
  pub least : (i : ℕ) → i < k → test i ≡ false

-- nothing below n passes
abbrev pub Fails : ℕ → (ℕ → Bool) → Type 0
Fails n test = (i : ℕ) → i < n → test i ≡ false

-- one number more fails
fails-suc : (n : ℕ) (test : ℕ → Bool) → Fails n test → test n ≡ false → Fails (suc n) test
fails-suc n test f e i l =
    elim (ℕ_discrete i n) [
      | yes p ↦ rw p e
      | no p ↦ f i (omega arith)
    ]

pub lowest-fails : (n : ℕ) (test : ℕ → Bool) → Fails n test → lowest n test ≡ None
unfolding lowest
lowest-fails zero test f = refl
lowest-fails (suc n) test f = rw (lowest-fails n test (λ i l. f i (omega arith)), f n (omega arith)) refl

pub lowest-is : (n : ℕ) (test : ℕ → Bool) (k : ℕ) → Lowest n test k → lowest n test ≡ Some k
unfolding lowest
lowest-is zero test k h = absurd (omega (arith, h.below))
lowest-is (suc n) test k h =
    elim (ℕ_discrete k n) [
      | yes p ↦ rw (lowest-fails n test (λ i l. h.least i (omega arith)), p) (ap (λ (t : Bool). when t n) (rw p at h.passes))
      | no p ↦
          rw (lowest-is n test k (record { below = omega (arith, h.below); passes = h.passes; least = h.least })) refl
    ]

-- a test fails everywhere, or some number is the lowest that passes
pub lowest-cases : (n : ℕ) (test : ℕ → Bool) → Fails n test ⊎ ((k : ℕ) × Lowest n test k)
lowest-cases zero test = inl (λ i l. absurd (omega arith))
lowest-cases (suc n) test = go (lowest-cases n test) (test n) refl
  where
    go : Fails n test ⊎ ((k : ℕ) × Lowest n test k) → (t : Bool) → test n ≡ t → Fails (suc n) test ⊎ ((k : ℕ) × Lowest (suc n) test k)
    go (inl f) true e = inr (n, record { below = omega arith; passes = e; least = f })
    go (inl f) false e = inl (fails-suc n test f e)
    go (inr h) t e =
        inr (h.0, record { below = omega (arith, h.1.below); passes = h.1.passes; least = h.1.least })

pub lowest-some : (n : ℕ) (test : ℕ → Bool) (k : ℕ) → lowest n test ≡ Some k → Lowest n test k
lowest-some n test k e = go (lowest-cases n test)
  where
    go : Fails n test ⊎ ((i : ℕ) × Lowest n test i) → Lowest n test k
    go (inl f) = absurd (let z : ◌≡◌ {A = ℕ} 0 1 = cc (lowest-fails n test f) in omega arith)
    go (inr h) =
        let same : h.0 ≡ k = cc (lowest-is n test h.0 h.1) in
        rw same at h.1

pub lowest-none : (n : ℕ) (test : ℕ → Bool) → lowest n test ≡ None → Fails n test
lowest-none n test e = go (lowest-cases n test)
  where
    go : Fails n test ⊎ ((i : ℕ) × Lowest n test i) → Fails n test
    go (inl f) = f
    go (inr h) = absurd (let z : ◌≡◌ {A = ℕ} 0 1 = cc (lowest-is n test h.0 h.1) in omega arith)

-- whether there is one, told by any number that passes
pub is_some-lowest : (n : ℕ) (test : ℕ → Bool) (k : ℕ) → k < n → test k ≡ true → is_some (lowest n test) ≡ true
is_some-lowest n test k l p = go (lowest-cases n test)
  where
    go : Fails n test ⊎ ((i : ℕ) × Lowest n test i) → is_some (lowest n test) ≡ true
    go (inl f) = absurd (let z : true ≡ false = sym p ∙ f k l in let y : ◌≡◌ {A = ℕ} 0 1 = cc in omega arith)
    go (inr h) = ap is_some (lowest-is n test h.0 h.1)

pub is_some-Lowest : (n : ℕ) (test : ℕ → Bool) → is_some (lowest n test) ≡ true → (k : ℕ) × Lowest n test k
is_some-Lowest n test e = go (lowest-cases n test)
  where
    go : Fails n test ⊎ ((k : ℕ) × Lowest n test k) → (k : ℕ) × Lowest n test k
    go (inl f) = absurd (let z : true ≡ false = sym e ∙ ap is_some (lowest-fails n test f) in let y : ◌≡◌ {A = ℕ} 0 1 = cc in omega arith)
    go (inr h) = h
