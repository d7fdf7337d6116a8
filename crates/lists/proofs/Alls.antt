-- Properties of all numbers below another, and of all elements of a list, by index; and the elements that an array has in use, the first
-- n of it, each made into another by f, as the moves of a path are.
use mathlib.Core.List.{List, [], ◌∷◌, map}
use mathlib.Core.Path.{◌≡◌, sym, ap, subst, ◌∙◌}
use Prim.Native.Nat.{ℕ, zero, suc, ◌+◌, ◌≤◌, ◌<◌}
use native.Mathlib.Decide.{ℕ_discrete}
use native.Mathlib.Omega.{arith}
use lib.ListN.{length, get_or, take, length-map, get_or-map}
use lib.Seq.{get_or-take, length-take-le}
use Rattle.fairness.specs.Exchange.{All}
pub use Rattle.fairness.proofs.Lists.{All-map, All-end}

-- ---- all numbers below one more

pub up_to : {P : ℕ → Type 0} {w : ℕ} → ((j : ℕ) → j < w → P j) → P w → (j : ℕ) → j < w + 1 → P j
up_to {P} {w} h p j l = elim (ℕ_discrete j w) [ yes e ↦ subst P (sym e) p | no n ↦ h j (omega arith) ]

-- ---- all elements of a list; past its end stands d

module _ {A : Type 0} where
  pub all-at : (P : A → Type 0) (d : A) (xs : List A) (i : ℕ) → All P xs → i < length xs → P (get_or xs i d)
  all-at P d [] i a l = absurd (omega arith)
  all-at P d (x ∷ xs) zero a l = a.0
  all-at P d (x ∷ xs) (suc i) a l = all-at P d xs i a.1 (omega arith)

-- ---- the first n elements of an array

module _ {A B : Type 0} (f : A → B) (xs : List A) (n : ℕ) where
  pub taken-length : n ≤ length xs → length (map f (take n xs)) ≡ n
  taken-length h = length-map (take n xs) f ∙ length-take-le n xs h

  pub taken_at : (i : ℕ) (d : A) → i < n → get_or (map f (take n xs)) i (f d) ≡ f (get_or xs i d)
  taken_at i d l = get_or-map f (take n xs) i d ∙ ap f (get_or-take n xs i d l)

  pub taken-all-at : (P : B → Type 0) (i : ℕ) (d : A) → All P (map f (take n xs)) → i < n → n ≤ length xs → P (f (get_or xs i d))
  taken-all-at P i d a l h =
      let e = taken_at i d l in
      let p = all-at P (f d) (map f (take n xs)) i a (omega (arith, taken-length h)) in
      rw e at p
