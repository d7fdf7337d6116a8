-- Tests that are true, taken apart and put together. Assumes nothing.
use mathlib.Core.Path.{◌≡◌, refl, sym, ◌∙◌}
use mathlib.Core.Bool.{Bool, true, false, ◌&&◌, ◌||◌, true≢false}
use mathlib.Core.Logic.{◌⊎◌, inl, inr, ◌↔◌}

pub and-true : (a b : Bool) → ((a && b) ≡ true) ↔ ((a ≡ true) × (b ≡ true))
and-true true b = (λ e. (refl, e), λ p. p.1)
and-true false b = (λ e. absurd (true≢false (sym e)), λ p. p.0)

pub or-true : (a b : Bool) → ((a || b) ≡ true) ↔ ((a ≡ true) ⊎ (b ≡ true))
or-true true b = (λ e. inl refl, λ p. refl)
or-true false b = (λ e. inr e, λ p. go p)
  where
    go : (false ≡ true) ⊎ (b ≡ true) → b ≡ true
    go (inl e) = absurd (true≢false (sym e))
    go (inr e) = e

-- a test that is not true is false
pub not-true : (a : Bool) → (a ≡ true → ⊥) → a ≡ false
not-true true q = absurd (q refl)
not-true false q = refl

pub true-not-false : (a : Bool) → a ≡ true → a ≡ false → ⊥
true-not-false a p q = true≢false (sym p ∙ q)
