-- Which of two lists is higher shows at the first place where they differ. Assumes nothing.
use mathlib.Core.Bool.{Bool, true, false}
use mathlib.Core.Path.{◌≡◌, sym, ◌∙◌}
use Prim.Native.Nat.{ℕ, zero, suc, ◌*◌, ◌<◌}
use native.Mathlib.Omega.{arith}
use lib.Dec.{ltb}
use borrow.Author.Tests.{ltb-true, ltb-false}
use Rattle.fairness.specs.Leximin.{Level, NoHigher, Higher, at, next, table}

-- ---- one level below another

module _ (p q : Level) {b : Bool} (is : b ≡ ltb (p.0 * q.1) (q.0 * p.1)) where
  pub below : b ≡ true → NoHigher q p → ⊥
  below e h = let l : p.0 * q.1 < q.0 * p.1 = ltb-true _ _ (sym is ∙ e) in omega arith

  pub not-below : b ≡ false → NoHigher q p
  not-below e = ltb-false _ _ (sym is ∙ e)

-- ---- the first place where two lists differ

-- level by level up to place i, the two are equal
abbrev pub Even : ℕ → (ℕ → Level) → (ℕ → Level) → Type 0
Even i f g = (k : ℕ) → k < i → NoHigher (f k) (g k) × NoHigher (g k) (f k)

later : (i : ℕ) (f g : ℕ → Level) → Even (suc i) f g → Even i (λ k. f (suc k)) (λ k. g (suc k))
later i f g e k l = e (suc k) (omega arith)

-- the second is above the first there
pub higher-at : (n i : ℕ) (f g : ℕ → Level) → Even i f g → i < n → (NoHigher (g i) (f i) → ⊥) → Higher NoHigher (table n f) (table n g)
unfolding table
higher-at zero i f g e l h = absurd (omega arith)
higher-at (suc n) zero f g e l h = at h
higher-at (suc n) (suc i) f g e l h =
    let here = e 0 (omega arith) in
    next here.0 here.1 (higher-at n i (λ k. f (suc k)) (λ k. g (suc k)) (later i f g e) (omega arith) h)

-- the first is above the second there
pub lower-at : (n i : ℕ) (f g : ℕ → Level) → Even i f g → i < n → (NoHigher (f i) (g i) → ⊥) → Higher NoHigher (table n f) (table n g) → ⊥
unfolding table
lower-at zero i f g e l h p = absurd (omega arith)
lower-at (suc n) zero f g e l h (at q) = q (omega arith)
lower-at (suc n) zero f g e l h (next p q r) = h p
lower-at (suc n) (suc i) f g e l h (at q) = q (e 0 (omega arith)).1
lower-at (suc n) (suc i) f g e l h (next p q r) = lower-at n i (λ k. f (suc k)) (λ k. g (suc k)) (later i f g e) (omega arith) h r

-- there is no such place
pub even-not-higher : (n : ℕ) (f g : ℕ → Level) → Even n f g → Higher NoHigher (table n f) (table n g) → ⊥
unfolding table
even-not-higher zero f g e h = elim h [ ]
even-not-higher (suc n) f g e (at q) = q (e 0 (omega arith)).1
even-not-higher (suc n) f g e (next p q r) = even-not-higher n (λ k. f (suc k)) (λ k. g (suc k)) (later n f g e) r
