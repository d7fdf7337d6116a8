-- Levels in units: with L the product of the weights, a credit of seat i counts L / weight i units. The order of levels, and so which
-- credit goes before which, is the same in units.
use mathlib.Core.Path.{◌≡◌, sym, ap, ◌∙◌}
use mathlib.Core.Logic.{inl, inr, ◌↔◌}
use Prim.Native.Nat.{ℕ, suc, ◌*◌, ◌≤◌, ◌<◌}
use native.Mathlib.Nat.{suc-mul, eq_of_mul-eq-mul_right}
use native.Mathlib.Decide.{dec_lt}
use native.Mathlib.Omega.{arith}
use Rattle.fairness.specs.Instance.{Instance, Proper}
use Rattle.fairness.specs.Leximin.{Level, NoHigher}
use Rattle.fairness.proofs.Lex.{Order, Lex, lex?, lex_irrefl, lex-cotrans, lex-down, lex-total}
use Rattle.fairness.proofs.Potential.{Sooner}
use Rattle.fairness.proofs.Unique.{Ranking}
use Rattle.fairness.proofs.Units.{product, product-pos, product-dvd, Divides, unit, unit-pos}
use Rattle.fairness.proofs.Units.{cross, cross-lt, cross-eq, unit-lt, lt-cross, eq-cross, lt-unit}

-- ---- which credit goes before which

-- what an improving path goes by: from a lower level, or from the same one for a smaller weight
abbrev pub Prefers : Instance → Order
Prefers I g a l b = Lex (a * I.weight l) (I.weight g < I.weight l) (b * I.weight g)

-- at the same level the smaller weight goes first, then the earlier position
abbrev pub Tie : Instance → ℕ → ℕ → Type 0
Tie I g l = Lex (I.weight g) (I.position g < I.position l) (I.weight l)

-- the same with the seat rule at a tie
abbrev pub Precedes : Instance → Order
Precedes I g a l b = Lex (a * I.weight l) (Tie I g l) (b * I.weight g)

-- ---- units

unfoldable pub L : Instance → ℕ
L I = product I.seats I.weight

-- the units of a credit of seat i
unfoldable pub u : Instance → ℕ → ℕ
u I i = unit (L I) (I.weight i)

-- a level in units
unfoldable pub units : Instance → Level → ℕ
units I p = p.0 * unit (L I) p.1

module _ (I : Instance) (proper : Proper I) where
  L-pos : 0 < L I
  unfolding L
  L-pos = product-pos I.seats I.weight proper.weights

  pub divides : (i : ℕ) → i < I.seats → Divides (L I) (I.weight i)
  unfolding L
  divides i l = record { positive = proper.weights i l; divides = product-dvd I.seats I.weight i l }

  pub u-pos : (i : ℕ) → i < I.seats → 0 < u I i
  unfolding u
  u-pos i l = unit-pos (L I) (I.weight i) L-pos (divides i l)

  -- the order of levels whose weights go into L
  pub same-order : (p q : Level) → Divides (L I) p.1 → Divides (L I) q.1 → NoHigher p q ↔ (units I p ≤ units I q)
  unfolding units
  same-order p q d e = cross (L I) L-pos p.1 q.1 d e p.0 q.0

  pub u_eq : (g l : ℕ) → I.weight g ≡ I.weight l → u I g ≡ u I l
  unfolding u
  u_eq g l e = ap (unit (L I)) e

  -- ---- two seats' credits, from heights a and b

  module _ (g l : ℕ) (lg : g < I.seats) (ll : l < I.seats) (a b : ℕ) where
    pub level-units : (a * I.weight l ≡ b * I.weight g) ↔ (a * u I g ≡ b * u I l)
    unfolding u
    level-units = (
      eq-cross (L I) L-pos (I.weight g) (I.weight l) (divides g lg) (divides l ll) a b,
      cross-eq (L I) L-pos (I.weight g) (I.weight l) (divides g lg) (divides l ll) a b,
    )

    lower-units : (a * I.weight l < b * I.weight g) ↔ (a * u I g < b * u I l)
    unfolding u
    lower-units = (
      lt-cross (L I) L-pos (I.weight g) (I.weight l) (divides g lg) (divides l ll) a b,
      cross-lt (L I) L-pos (I.weight g) (I.weight l) (divides g lg) (divides l ll) a b,
    )

    lighter-units : (I.weight g < I.weight l) ↔ (u I l < u I g)
    unfolding u
    lighter-units = (
      lt-unit (L I) L-pos (I.weight g) (I.weight l) (divides g lg) (divides l ll),
      unit-lt (L I) L-pos (I.weight g) (I.weight l) (divides g lg) (divides l ll),
    )

    pub prefers-units : Prefers I g a l b → Sooner (u I) g a l b
    prefers-units (inl h) = inl (lower-units.0 h)
    prefers-units (inr t) = inr (level-units.0 t.0, lighter-units.0 t.1)

    pub units-prefers : Sooner (u I) g a l b → Prefers I g a l b
    units-prefers (inl h) = inl (lower-units.1 h)
    units-prefers (inr t) = inr (level-units.1 t.0, lighter-units.1 t.1)

    pub units-precedes : Lex (a * u I g) (Tie I g l) (b * u I l) → Precedes I g a l b
    units-precedes (inl h) = inl (lower-units.1 h)
    units-precedes (inr t) = inr (level-units.1 t.0, t.1)

  -- ---- the ranking of all credits, in units

  unfoldable pub ranking : Ranking I.seats
  ranking =
      record {
        Before = λ i a j b. Lex (a * u I i) (Tie I i j) (b * u I j);
        before? = λ i a j b.
            lex? (a * u I i) (b * u I j) (lex? (I.weight i) (I.weight j) (dec_lt (I.position i) (I.position j)));
        irrefl = λ i a. lex_irrefl (a * u I i) (lex_irrefl (I.weight i) (λ l. omega arith));
        cotrans = λ i a j b k c.
            lex-cotrans (a * u I i) (b * u I j) (c * u I k)
            (lex-cotrans (I.weight i) (I.weight j) (I.weight k) (λ l m. omega arith));
        down = λ i a j b. lex-down (a * u I i) (suc a * u I i) (b * u I j) (omega (arith, suc-mul a (u I i)));
        step = λ i a l. inl (omega (arith, suc-mul a (u I i), u-pos i l));
        total = λ i a j b li lj p q.
            same i a j b li lj
            (lex-total (a * u I i) (b * u I j)
            (lex-total (I.weight i) (I.weight j) {E = I.position i ≡ I.position j} (λ l m. omega arith)) p q);
      }
    where
      same : (i a j b : ℕ) → i < I.seats → j < I.seats →
          (a * u I i ≡ b * u I j) × ((I.weight i ≡ I.weight j) × (I.position i ≡ I.position j)) → (i ≡ j) × (a ≡ b)
      same i a j b li lj t =
          let e : i ≡ j = proper.positions i j li lj t.1.1 in
          (e, eq_of_mul-eq-mul_right (u I i) (u-pos i li) a b (t.0 ∙ ap (λ (x : ℕ). b * u I x) (sym e)))
