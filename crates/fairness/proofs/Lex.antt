-- Orders of single credits. A credit is a seat and the height that it raises; credits are compared by level first, and what decides a tie
-- is a parameter. Where no path takes a later credit for an earlier one, the threshold lemma applies.
use mathlib.Core.Path.{◌≡◌}
use mathlib.Core.Logic.{◌⊎◌, inl, inr}
use mathlib.Core.List.{List}
use Prim.Native.Nat.{ℕ, suc, ◌≤◌, ◌<◌}
use native.Mathlib.Decide.{dec_lt, ℕ_discrete}
use native.Mathlib.Omega.{arith}
use Rattle.fairness.specs.Instance.{Instance, Sheet, height}
use Rattle.fairness.specs.Exchange.{Move, Path}
use Rattle.fairness.proofs.Decide.{both?, either?}

-- an order of credits: seat g's from height a goes before seat l's from height b
abbrev pub Order : Type 1
Order = ℕ → ℕ → ℕ → ℕ → Type 0

-- no path gives seat g a credit that goes before the one that it takes from seat l
abbrev pub NoPath : (I : Instance) → Order → Sheet → Type 0
NoPath I R S =
    (g l k : ℕ) (ms : List Move) → g < I.seats → l < I.seats → Path I S g l ms → height I S l ≡ suc k → R g (height I S g) l k → ⊥

-- ---- the lexicographic order, of p before q, with R for what decides a tie

abbrev pub Lex : ℕ → Type 0 → ℕ → Type 0
Lex p R q = (p < q) ⊎ ((p ≡ q) × R)

pub lex? : (p : ℕ) {R : Type 0} (q : ℕ) → Dec R → Dec (Lex p R q)
lex? p q d = either? (dec_lt p q) (both? (ℕ_discrete p q) d)

pub lex_irrefl : (p : ℕ) {R : Type 0} → (R → ⊥) → Lex p R p → ⊥
lex_irrefl p n (inl l) = omega arith
lex_irrefl p n (inr t) = n t.1

pub lex-cotrans : (p q r : ℕ) {P Q R : Type 0} → (P → (Q → ⊥) → R) → Lex p P r → (Lex q Q r → ⊥) → Lex p R q
lex-cotrans p q r {P} {Q} {R} f h n = go (dec_lt p q) h
  where
    go : Dec (p < q) → Lex p P r → Lex p R q
    go (yes l) t = inl l
    go (no l) (inl b) = absurd (n (inl (omega arith)))
    go (no l) (inr t) = at (dec_lt q r)
      where
        at : Dec (q < r) → Lex p R q
        at (yes b) = absurd (n (inl b))
        at (no b) = inr (omega (arith, t.0), f t.1 (λ s. n (inr (omega (arith, t.0), s))))

pub lex-total : (p q : ℕ) {P Q E : Type 0} → ((P → ⊥) → (Q → ⊥) → E) → (Lex p P q → ⊥) → (Lex q Q p → ⊥) → (p ≡ q) × E
lex-total p q {P} {Q} {E} f a b = go (dec_lt p q) (dec_lt q p)
  where
    go : Dec (p < q) → Dec (q < p) → (p ≡ q) × E
    go (yes l) d = absurd (a (inl l))
    go (no l) (yes m) = absurd (b (inl m))
    go (no l) (no m) = (omega arith, f (λ s. a (inr (omega arith, s))) (λ s. b (inr (omega arith, s))))

-- an earlier level goes before whatever a later one goes before
pub lex-down : (o p q : ℕ) {R : Type 0} → o ≤ p → Lex p R q → Lex o R q
lex-down o p q h (inl l) = inl (omega arith)
lex-down o p q {R} h (inr t) = go (dec_lt o q)
  where
    go : Dec (o < q) → Lex o R q
    go (yes l) = inl l
    go (no l) = inr (omega (arith, t.0), t.1)
