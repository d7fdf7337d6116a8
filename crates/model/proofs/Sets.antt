-- Sets of seats as lists: who is a member. Assumes nothing.
use mathlib.Core.Path.{◌≡◌, refl, sym, ap, ◌∙◌}
use mathlib.Core.Bool.{Bool, true, false, true≢false}
use mathlib.Core.Logic.{◌⊎◌, inl, inr, ◌↔◌}
use mathlib.Core.List.{List, [], ◌∷◌}
use Prim.Native.Nat.{ℕ, zero, suc, ◌<◌}
use native.Mathlib.Omega.{arith}
use lib.Dec.{eqb}
use borrow.Author.Tests.{eqb-true, eq-eqb}
use Rattle.fairness.specs.Leximin.{table}
use Rattle.model.specs.Search.{member, any, cons_if, filter}
use Rattle.model.proofs.Tests.{or-true}

-- x is in the list
abbrev pub In : ℕ → List ℕ → Type 0
In x xs = member x xs ≡ true

pub in-cons : (x y : ℕ) (ys : List ℕ) → In x (y ∷ ys) ↔ ((x ≡ y) ⊎ In x ys)
unfolding member
in-cons x y ys = (λ e. to ((or-true (eqb x y) (member x ys)).0 e), λ p. (or-true (eqb x y) (member x ys)).1 (from p))
  where
    to : (eqb x y ≡ true) ⊎ In x ys → (x ≡ y) ⊎ In x ys
    to (inl e) = inl (eqb-true x y e)
    to (inr e) = inr e

    from : (x ≡ y) ⊎ In x ys → (eqb x y ≡ true) ⊎ In x ys
    from (inl e) = inl (eq-eqb x y e)
    from (inr e) = inr e

pub in-nil : (x : ℕ) → In x [] → ⊥
unfolding member
in-nil x e = true≢false (sym e)

pub in-any : (test : ℕ → Bool) (xs : List ℕ) → (any test xs ≡ true) ↔ ((x : ℕ) × (In x xs × (test x ≡ true)))
unfolding any
in-any test xs = (to xs, λ w. from xs w.0 w.1.0 w.1.1)
  where
    to : (xs : List ℕ) → any test xs ≡ true → (x : ℕ) × (In x xs × (test x ≡ true))
    to [] e = absurd (true≢false (sym e))
    to (y ∷ ys) e = go (to ys) ((or-true (test y) (any test ys)).0 e)
      where
        go : (any test ys ≡ true → (x : ℕ) × (In x ys × (test x ≡ true))) → (test y ≡ true) ⊎ (any test ys ≡ true) →
            (x : ℕ) × (In x (y ∷ ys) × (test x ≡ true))
        go ih (inl p) = (y, ((in-cons y y ys).1 (inl refl), p))
        go ih (inr p) = let w = ih p in (w.0, ((in-cons w.0 y ys).1 (inr w.1.0), w.1.1))

    from : (xs : List ℕ) (x : ℕ) → In x xs → test x ≡ true → any test xs ≡ true
    from [] x i p = absurd (in-nil x i)
    from (y ∷ ys) x i p = (or-true (test y) (any test ys)).1 (go (from ys x) ((in-cons x y ys).0 i))
      where
        go : (In x ys → test x ≡ true → any test ys ≡ true) → (x ≡ y) ⊎ In x ys → (test y ≡ true) ⊎ (any test ys ≡ true)
        go ih (inl e) = inl (rw e at p)
        go ih (inr m) = inr (ih m p)

pub in-filter : (test : ℕ → Bool) (x : ℕ) (xs : List ℕ) → In x (filter test xs) ↔ (In x xs × (test x ≡ true))
unfolding filter
in-filter test x [] = (λ e. absurd (in-nil x e), λ p. p.0)
in-filter test x (y ∷ ys) = go (in-filter test x ys) (test y) refl
  where
    go : In x (filter test ys) ↔ (In x ys × (test x ≡ true)) → (t : Bool) → test y ≡ t →
        In x (cons_if t y (filter test ys)) ↔ (In x (y ∷ ys) × (test x ≡ true))
    go ih true e = (
      λ i. to ((in-cons x y (filter test ys)).0 i),
      λ p. (in-cons x y (filter test ys)).1 (from ((in-cons x y ys).0 p.0) p.1),
    )
      where
        to : (x ≡ y) ⊎ In x (filter test ys) → In x (y ∷ ys) × (test x ≡ true)
        to (inl q) = ((in-cons x y ys).1 (inl q), ap test q ∙ e)
        to (inr i) = ((in-cons x y ys).1 (inr (ih.0 i).0), (ih.0 i).1)

        from : (x ≡ y) ⊎ In x ys → test x ≡ true → (x ≡ y) ⊎ In x (filter test ys)
        from (inl q) p = inl q
        from (inr i) p = inr (ih.1 (i, p))
    go ih false e = (λ i. ((in-cons x y ys).1 (inr (ih.0 i).0), (ih.0 i).1), λ p. ih.1 (from ((in-cons x y ys).0 p.0) p.1, p.1))
      where
        from : (x ≡ y) ⊎ In x ys → test x ≡ true → In x ys
        from (inl q) p = absurd (true≢false (sym p ∙ ap test q ∙ e))
        from (inr i) p = i

-- who stands in a table
pub in_table : (n : ℕ) (f : ℕ → ℕ) (x : ℕ) → In x (table n f) ↔ ((i : ℕ) × ((i < n) × (x ≡ f i)))
unfolding table
in_table n f x = (to n f, λ w. from n f w.0 w.1.0 w.1.1)
  where
    to : (n : ℕ) (f : ℕ → ℕ) → In x (table n f) → (i : ℕ) × ((i < n) × (x ≡ f i))
    to zero f e = absurd (in-nil x e)
    to (suc n) f e = go (to n (λ i. f (suc i))) ((in-cons x (f 0) (table n (λ i. f (suc i)))).0 e)
      where
        go : (In x (table n (λ i. f (suc i))) → (i : ℕ) × ((i < n) × (x ≡ f (suc i)))) →
            (x ≡ f 0) ⊎ In x (table n (λ i. f (suc i))) → (i : ℕ) × ((i < suc n) × (x ≡ f i))
        go ih (inl q) = (0, (omega arith, q))
        go ih (inr m) = let w = ih m in (suc w.0, (omega (arith, w.1.0), w.1.1))

    from : (n : ℕ) (f : ℕ → ℕ) (i : ℕ) → i < n → x ≡ f i → In x (table n f)
    from zero f i l e = absurd (omega arith)
    from (suc n) f zero l e = (in-cons x (f 0) (table n (λ i. f (suc i)))).1 (inl e)
    from (suc n) f (suc i) l e = (in-cons x (f 0) (table n (λ i. f (suc i)))).1 (inr (from n (λ i. f (suc i)) i (omega arith) e))
