-- Decisions: of two, bounded search, numbers kept by a decision, and a decision for each number below a bound under a double negation.
-- An order of numbers is decidable, so it may be proved under a double negation: there a set of seats need not be computed.
use mathlib.Core.Path.{◌≡◌, refl, sym, ◌∙◌, subst}
use mathlib.Core.Logic.{◌⊎◌, inl, inr, ⊎_elim}
use Prim.Native.Nat.{ℕ, zero, suc, ◌+◌, ◌≤◌, ◌<◌}
use native.Mathlib.Nat.{le_refl}
use native.Mathlib.Decide.{dec_le, dec_lt, ℕ_discrete}
use native.Mathlib.Omega.{arith}
use Rattle.fairness.specs.Sums.{sum, keep}
use Rattle.fairness.proofs.Sums.{sum_one}

-- ---- decisions of two

abbrev pub both? : {P Q : Type 0} → Dec P → Dec Q → Dec (P × Q)
both? (yes p) (yes q) = yes (p, q)
both? (yes p) (no q) = no (λ e. q e.1)
both? (no p) e = no (λ e. p e.0)

abbrev pub either? : {P Q : Type 0} → Dec P → Dec Q → Dec (P ⊎ Q)
either? (yes p) e = yes (inl p)
either? (no p) (yes q) = yes (inr q)
either? (no p) (no q) = no (⊎_elim p q)

-- ---- a number kept where a decision is yes

-- a number kept where the decision is no
abbrev pub drop : {P : Type 0} → Dec P → ℕ → ℕ
drop (yes p) x = 0
drop (no q) x = x

pub keep-add : {P : Type 0} (d : Dec P) (x y : ℕ) → keep d (x + y) ≡ keep d x + keep d y
keep-add (yes p) x y = refl
keep-add (no q) x y = refl

pub keep-le : {P : Type 0} (d : Dec P) (x y : ℕ) → (P → x ≤ y) → keep d x ≤ keep d y
keep-le (yes p) x y h = h p
keep-le (no q) x y h = le_refl 0

pub keep-most : {P : Type 0} (d : Dec P) (x : ℕ) → keep d x ≤ x
keep-most (yes p) x = le_refl x
keep-most (no q) x = omega arith

pub keep-yes : {P : Type 0} (d : Dec P) (x : ℕ) → P → keep d x ≡ x
keep-yes (yes p) x q = refl
keep-yes (no p) x q = absurd (p q)

pub keep-no : {P : Type 0} (d : Dec P) (x : ℕ) → (P → ⊥) → keep d x ≡ 0
keep-no (yes p) x q = absurd (q p)
keep-no (no p) x q = refl

-- ---- search below a bound

pub below? : (P : ℕ → Type 0) → ((i : ℕ) → Dec (P i)) → (n : ℕ) → Dec ((i : ℕ) × (i < n) × P i)
below? P d zero = no (λ w. omega (arith, w.1))
below? P d (suc n) = go (below? P d n) (d n)
  where
    go : Dec ((i : ℕ) × (i < n) × P i) → Dec (P n) → Dec ((i : ℕ) × (i < suc n) × P i)
    go (yes w) e = yes (w.0, omega (arith, w.1), w.2)
    go (no q) (yes p) = yes (n, le_refl (suc n), p)
    go (no q) (no r) = no (λ w. at w.0 w.1 w.2 (ℕ_discrete w.0 n))
      where
        at : (i : ℕ) → i < suc n → P i → Dec (i ≡ n) → ⊥
        at i l p (yes e) = r (subst P e p)
        at i l p (no e) = q (i, omega arith, p)

-- ---- decisions for all numbers below a bound, not refutable

nn-below : (P : ℕ → Type 0) (n : ℕ) → ¬ (¬ ((i : ℕ) → i < n → Dec (P i)))
nn-below P zero k = k (λ i l. absurd (omega arith))
nn-below P (suc n) k = nn-below P n (λ d. k' d (no (λ p. k' d (yes p))))
  where
    k' : ((i : ℕ) → i < n → Dec (P i)) → Dec (P n) → ⊥
    k' d e = k (λ i l. at i l (ℕ_discrete i n))
      where
        at : (i : ℕ) → i < suc n → Dec (i ≡ n) → Dec (P i)
        at i l (yes q) = subst (λ (x : ℕ). Dec (P x)) (sym q) e
        at i l (no q) = d i (omega arith)

-- a predicate on the numbers below n has decisions, up to a double negation
pub nn-decided : (P : ℕ → Type 0) (n : ℕ) → ((i : ℕ) → P i → i < n) → ¬ (¬ ((i : ℕ) → Dec (P i)))
nn-decided P n h k = nn-below P n (λ d. k (λ i. at d i (dec_lt i n)))
  where
    at : ((i : ℕ) → i < n → Dec (P i)) → (i : ℕ) → Dec (i < n) → Dec (P i)
    at d i (yes l) = d i l
    at d i (no q) = no (λ p. q (h i p))

-- an order of numbers is proved where its failure is refuted
pub le-stable : (a b : ℕ) → ¬ (¬ (a ≤ b)) → a ≤ b
le-stable a b h = go (dec_le a b)
  where
    go : Dec (a ≤ b) → a ≤ b
    go (yes l) = l
    go (no q) = absurd (h q)

-- ---- a sum that has one term

pub sum-at : (n i x : ℕ) → i < n → sum n (λ a. keep (ℕ_discrete a i) x) ≡ x
sum-at n i x l =
    sum_one n (λ a. keep (ℕ_discrete a i) x) i l (λ a m q. keep-no (ℕ_discrete a i) x q)
    ∙ keep-yes (ℕ_discrete i i) x refl
