-- Levels, profiles and the leximin order: paper 01's levels, lists and dictionary order.
use Rattle.std.specs.Prelude.{List, [], ◌∷◌, ◌⊎◌, ℕ, zero, suc, ◌*◌, ◌≤◌}
use Rattle.std.proofs.Math.Decide.{dec_le}
use Rattle.fairness.specs.Instance.{Instance, Sheet, Feasible, height}

-- ---- lists, for any type and order

-- the first list where the decision is yes, the second where it is no
abbrev pub choose : {A P : Type 0} → Dec P → List A → List A → List A
choose (yes p) xs ys = xs
choose (no q) xs ys = ys

module _ {A : Type 0} (◌⊑◌ : A → A → Type 0) where
  infix 50 ◌⊑◌
  -- equal at every place
  pub data Equal : List A → List A → Type 0 where
    none : Equal [] []
    both : {x y : A} {xs ys : List A} → x ⊑ y → y ⊑ x → Equal xs ys → Equal (x ∷ xs) (y ∷ ys)

  -- ys is higher than xs: equal up to the first place where they differ, and above it there
  pub data Higher : List A → List A → Type 0 where
    at : {x y : A} {xs ys : List A} → (y ⊑ x → ⊥) → Higher (x ∷ xs) (y ∷ ys)
    next : {x y : A} {xs ys : List A} → x ⊑ y → y ⊑ x → Higher xs ys → Higher (x ∷ xs) (y ∷ ys)

  module _ (⊑? : (x y : A) → Dec (x ⊑ y)) where
    unfoldable pub insert : A → List A → List A
    insert x [] = x ∷ []
    insert x (y ∷ ys) = choose (⊑? x y) (x ∷ y ∷ ys) (y ∷ insert x ys)

    -- lowest first
    unfoldable pub sort : List A → List A
    sort [] = []
    sort (x ∷ xs) = insert x (sort xs)

-- f 0, f 1, .., f (n − 1)
unfoldable pub table : {A : Type 0} → ℕ → (ℕ → A) → List A
table zero f = []
table (suc n) f = f 0 ∷ table n (λ i. f (suc i))

-- ---- levels

-- a height and a weight: the fraction height / weight
abbrev pub Level : Type 0
Level = ℕ × ℕ

-- p is q or lower, by cross products
abbrev pub NoHigher : Level → Level → Type 0
NoHigher p q = p.0 * q.1 ≤ q.0 * p.1

abbrev pub no_higher? : (p q : Level) → Dec (NoHigher p q)
no_higher? p q = dec_le (p.0 * q.1) (q.0 * p.1)

module _ (I : Instance) where
  -- each seat's level, by seat
  unfoldable pub levels : Sheet → List Level
  levels S = table I.seats (λ i. (height I S i, I.weight i))

  -- paper 01's list, paper 000's u(I, μ): all levels, lowest first
  unfoldable pub profile : Sheet → List Level
  profile S = sort NoHigher no_higher? (levels S)

  -- the three cases of the leximin order of two sheets: T has the same profile as S, a higher one, or (swapped) a lower one
  abbrev pub SameProfile : Sheet → Sheet → Type 0
  SameProfile S T = Equal NoHigher (profile S) (profile T)

  abbrev pub Better : Sheet → Sheet → Type 0
  Better S T = Higher NoHigher (profile S) (profile T)

  -- feasible, and every feasible sheet has an equal or a lower profile
  pub record Highest (S : Sheet) : Type 0 where
    pub feasible : Feasible I S
    pub most : (T : Sheet) → Feasible I T → SameProfile T S ⊎ Better T S
