-- The two tests of an exchange path as orders of credits, and what a wanted path has at its ends.
use mathlib.Core.Path.{◌≡◌, ap, subst}
use mathlib.Core.Bool.{Bool, true, ◌&&◌, ◌||◌}
use mathlib.Core.Logic.{◌⊎◌, inl, inr}
use mathlib.Core.List.{List, [], ◌∷◌}
use Prim.Native.Nat.{ℕ, suc, ◌+◌, ◌-◌, ◌*◌, ◌≤◌, ◌<◌}
use native.Mathlib.Nat.{mul-le-mul_right, eq_of_mul-eq-mul_right}
use native.Mathlib.Omega.{arith}
use lib.Dec.{eqb, ltb}
use borrow.Author.Tests.{ltb-true, eqb-true, lt-ltb, eq-eqb}
use Rattle.fairness.specs.Instance.{Instance, Proper, Sheet, height}
use Rattle.fairness.specs.Exchange.{Move, Possible, All, Linked, Path, improves, ties_wrongly, improves_at, ties_at, Improvable, Tied}
use Rattle.fairness.proofs.Sums.{sum-term}
use Rattle.fairness.proofs.Bools.{or_parts, or_right, and_parts, and-true}
use Rattle.fairness.proofs.Lex.{Order, Lex, NoPath}
use Rattle.fairness.proofs.Levels.{Prefers, Precedes}

-- ---- the tests on numbers

lex-true : (x y v w : ℕ) → (ltb x y || (eqb x y && ltb v w)) ≡ true → Lex x (v < w) y
lex-true x y v w e = go (or_parts (ltb x y) (eqb x y && ltb v w) e)
  where
    go : (ltb x y ≡ true) ⊎ ((eqb x y && ltb v w) ≡ true) → Lex x (v < w) y
    go (inl a) = inl (ltb-true x y a)
    go (inr a) = let p = and_parts (eqb x y) (ltb v w) a in inr (eqb-true x y p.0, ltb-true v w p.1)

true-lex : (x y v w : ℕ) → Lex x (v < w) y → (ltb x y || (eqb x y && ltb v w)) ≡ true
true-lex x y v w (inl a) = ap (λ (b : Bool). b || (eqb x y && ltb v w)) (lt-ltb x y a)
true-lex x y v w (inr a) =
    or_right (ltb x y) (eqb x y && ltb v w) (and-true (eqb x y) (ltb v w) (eq-eqb x y a.0) (lt-ltb v w a.1))

module _ (I : Instance) (S : Sheet) where
  -- ---- the tests on seats

  improves_at-lex : (g l k : ℕ) → height I S l ≡ suc k → improves_at I S g l ≡ true → Prefers I g (height I S g) l k
  unfolding improves_at improves
  improves_at-lex g l k e t =
      let z : height I S l - 1 ≡ k = omega arith in
      rw z at (lex-true (height I S g * I.weight l) ((height I S l - 1) * I.weight g) (I.weight g) (I.weight l) t)

  lex-improves_at : (g l k : ℕ) → height I S l ≡ suc k → Prefers I g (height I S g) l k → improves_at I S g l ≡ true
  unfolding improves_at improves
  lex-improves_at g l k e t =
      let z : k ≡ height I S l - 1 = omega arith in
      true-lex (height I S g * I.weight l) ((height I S l - 1) * I.weight g) (I.weight g) (I.weight l) (rw z at t)

  -- a wrong tie: the same weight, one credit more, and a later position
  record TiesWrongly (g l : ℕ) : Type 0 where
    weights : I.weight g ≡ I.weight l
    heights : height I S l ≡ height I S g + 1
    positions : I.position g < I.position l

  ties_at-parts : (g l : ℕ) → ties_at I S g l ≡ true → TiesWrongly g l
  unfolding ties_at ties_wrongly
  ties_at-parts g l e =
      let a = and_parts (eqb (I.weight g) (I.weight l)) _ e in
      let b = and_parts (eqb (height I S l) (height I S g + 1)) (ltb (I.position g) (I.position l)) a.1 in
      record {
        weights = eqb-true (I.weight g) (I.weight l) a.0;
        heights = eqb-true (height I S l) (height I S g + 1) b.0;
        positions = ltb-true (I.position g) (I.position l) b.1;
      }

  parts-ties_at : (g l : ℕ) → TiesWrongly g l → ties_at I S g l ≡ true
  unfolding ties_at ties_wrongly
  parts-ties_at g l t =
      and-true (eqb (I.weight g) (I.weight l)) _ (eq-eqb (I.weight g) (I.weight l) t.weights)
      (and-true (eqb (height I S l) (height I S g + 1)) (ltb (I.position g) (I.position l))
      (eq-eqb (height I S l) (height I S g + 1) t.heights)
      (lt-ltb (I.position g) (I.position l) t.positions))

  ties_at-lex : (g l k : ℕ) → height I S l ≡ suc k → ties_at I S g l ≡ true → Precedes I g (height I S g) l k
  ties_at-lex g l k e t =
      let w = ties_at-parts g l t in
      let z : height I S g ≡ k = omega (arith, w.heights) in
      inr (rw (z, w.weights), inr (w.weights, w.positions))

  -- no seat is exchanged with itself
  pub improves-apart : (g : ℕ) → improves_at I S g g ≡ true → ⊥
  unfolding improves_at improves
  improves-apart g t =
      self (lex-true (height I S g * I.weight g) ((height I S g - 1) * I.weight g) (I.weight g) (I.weight g) t)
    where
      self : Lex (height I S g * I.weight g) (I.weight g < I.weight g) ((height I S g - 1) * I.weight g) → ⊥
      self (inl a) =
          let m : height I S g - 1 ≤ height I S g = omega arith in
          omega (arith, mul-le-mul_right (I.weight g) m)
      self (inr a) = omega (arith, a.1)

  pub ties-apart : (g : ℕ) → ties_at I S g g ≡ true → ⊥
  ties-apart g t = omega (arith, (ties_at-parts g g t).positions)

  pub not-self : (test : ℕ → ℕ → Bool) → ((g : ℕ) → test g g ≡ true → ⊥) → (g l : ℕ) → test g l ≡ true → g ≡ l → ⊥
  not-self test apart g l t e = apart l (subst (λ (x : ℕ). test x l ≡ true) e t)

  -- ---- the ends of a path

  donor-gives : (g l : ℕ) (m : Move) (ms : List Move) → Linked g (m ∷ ms) l → All (Possible I S) (m ∷ ms) →
      (l < I.seats) × (0 < height I S l)
  donor-gives g l m [] e a =
      subst (λ (x : ℕ). (x < I.seats) × (0 < height I S x)) e.1
      (a.0.in_giver, omega (arith, a.0.has, sum-term I.windows (λ j. S m.giver j) m.window a.0.in_window))
  donor-gives g l m (n ∷ ms) e a = donor-gives m.giver l n ms e.1 a.1

  -- a receiver and a donor that a path leads between
  pub record Ends (g l : ℕ) : Type 0 where
    pub in-receiver : g < I.seats
    pub in-donor : l < I.seats
    pub gives : 0 < height I S l

  pub path-ends : (g l : ℕ) (ms : List Move) → Path I S g l ms → (g ≡ l → ⊥) → Ends g l
  path-ends g l [] p ne = absurd (ne p.linked)
  path-ends g l (m ∷ ms) p ne =
      let d = donor-gives g l m ms p.linked p.possible in
      record {
        in-receiver = subst (λ (x : ℕ). x < I.seats) p.linked.0 p.possible.0.in_taker;
        in-donor = d.0;
        gives = d.1;
      }

  -- the donor's last credit is later, by an order of credits, than the receiver's next
  pub record Wanted (R : Order) (g l : ℕ) : Type 0 where
    pub in-receiver : g < I.seats
    pub in-donor : l < I.seats
    pub apart : g ≡ l → ⊥
    pub rest : ℕ
    pub last : height I S l ≡ suc rest
    pub before : R g (height I S g) l rest

  path-wanted : (R : Order) (g l : ℕ) (ms : List Move) → Path I S g l ms → (g ≡ l → ⊥) →
      ((k : ℕ) → height I S l ≡ suc k → R g (height I S g) l k) → Wanted R g l
  path-wanted R g l ms p ne r =
      let ends = path-ends g l ms p ne in
      let e : height I S l ≡ suc (height I S l - 1) = omega (arith, ends.gives) in
      record {
        in-receiver = ends.in-receiver;
        in-donor = ends.in-donor;
        apart = ne;
        rest = height I S l - 1;
        last = e;
        before = r (height I S l - 1) e;
      }

  -- from a test to the order, for the ends of a path
  pub improves-wanted : (g l : ℕ) (ms : List Move) → Path I S g l ms → improves_at I S g l ≡ true → Wanted (Prefers I) g l
  improves-wanted g l ms p t =
      path-wanted (Prefers I) g l ms p (not-self (improves_at I S) improves-apart g l t) (λ k e. improves_at-lex g l k e t)

  -- an improving credit goes before the other also where the seat rule decides the last ties
  prefers-precedes : (g a l b : ℕ) → Prefers I g a l b → Precedes I g a l b
  prefers-precedes g a l b (inl h) = inl h
  prefers-precedes g a l b (inr t) = inr (t.0, inl t.1)

  pub exchange-wanted : (g l : ℕ) (ms : List Move) → Path I S g l ms → (improves_at I S g l ≡ true) ⊎ (ties_at I S g l ≡ true) →
      Wanted (Precedes I) g l
  exchange-wanted g l ms p (inl t) =
      path-wanted (Precedes I) g l ms p (not-self (improves_at I S) improves-apart g l t)
      (λ k e. prefers-precedes g (height I S g) l k (improves_at-lex g l k e t))
  exchange-wanted g l ms p (inr t) =
      path-wanted (Precedes I) g l ms p (not-self (ties_at I S) ties-apart g l t) (λ k e. ties_at-lex g l k e t)

  -- ---- from the absence of exchanges to the orders

  pub unimprovable : (Improvable I S → ⊥) → NoPath I (Prefers I) S
  unimprovable none g l k ms lg ll p e r =
      none (record { receiver = g; donor = l; moves = ms; path = p; wanted = lex-improves_at g l k e r })

  pub unexchangeable : Proper I → (Improvable I S → ⊥) → (Tied I S → ⊥) → NoPath I (Precedes I) S
  unexchangeable proper none-improves none-ties g l k ms lg ll p e (inl a) = unimprovable none-improves g l k ms lg ll p e (inl a)
  unexchangeable proper none-improves none-ties g l k ms lg ll p e (inr t) = go t.1
    where
      go : Lex (I.weight g) (I.position g < I.position l) (I.weight l) → ⊥
      go (inl a) = unimprovable none-improves g l k ms lg ll p e (inr (t.0, a))
      go (inr a) =
          none-ties
          (record {
            receiver = g;
            donor = l;
            moves = ms;
            path = p;
            wanted = parts-ties_at g l (record { weights = a.0; heights = omega (arith, same); positions = a.1 });
          })
        where
          same : height I S g ≡ k
          same = eq_of_mul-eq-mul_right (I.weight g) (proper.weights g lg) (height I S g) k (rw (← a.0) at t.0)
