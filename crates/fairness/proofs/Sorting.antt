-- Lists in an order: insertion sort and the leximin order for any decidable relation, and for numbers the weight Σ B^(N − x) of a list.
-- Where ys is sorted and higher than xs, its weight is less: the first place that differs outweighs all that follow it.
use mathlib.Core.Path.{◌≡◌, refl, ap, ◌∙◌}
use mathlib.Core.Logic.{◌⊎◌, inl, inr, ◌↔◌}
use mathlib.Core.List.{List, [], ◌∷◌, map}
use Prim.Native.Nat.{ℕ, suc, ◌+◌, ◌*◌, ◌-◌, ◌^◌, ◌≤◌, ◌<◌}
use native.Mathlib.Nat.{le_trans, le_antisymm, pow-le-pow_right, pow-suc, one-le-pow, zero-mul, suc-mul, mul_comm, mul-lt-mul_of_pos_right}
use native.Mathlib.Decide.{dec_le}
use native.Mathlib.Omega.{arith}
use lib.ListN.{length}
use Rattle.fairness.specs.Leximin.{choose, Equal, none, both, Higher, at, next, insert, sort}
use Rattle.fairness.specs.Exchange.{All}
use Rattle.fairness.proofs.Lists.{All-map, list_sum}

module _ {A : Type 0} (◌⊑◌ : A → A → Type 0) where
  infix 50 ◌⊑◌
  -- ---- the three cases exclude each other, and one of them holds

  pub Equal-sym : (xs ys : List A) → Equal ◌⊑◌ xs ys → Equal ◌⊑◌ ys xs
  Equal-sym xs ys none = none
  Equal-sym xs ys (both {xs = xs'} {ys = ys'} p q e) = both q p (Equal-sym xs' ys' e)

  pub Equal-not-Higher : (xs ys : List A) → Equal ◌⊑◌ xs ys → Higher ◌⊑◌ xs ys → ⊥
  Equal-not-Higher _ _ none h = elim h [ ]
  Equal-not-Higher xs ys (both p q e) (at h) = h q
  Equal-not-Higher xs ys (both {xs = xs'} {ys = ys'} p q e) (next r s h) = Equal-not-Higher xs' ys' e h

  pub Higher-asym : ((x y : A) → (x ⊑ y) ⊎ (y ⊑ x)) → (xs ys : List A) → Higher ◌⊑◌ xs ys → Higher ◌⊑◌ ys xs → ⊥
  Higher-asym total xs ys (at {x = x} {y = y} h) k = first (total x y) k
    where
      first : {xs' ys' : List A} → (x ⊑ y) ⊎ (y ⊑ x) → Higher ◌⊑◌ (y ∷ ys') (x ∷ xs') → ⊥
      first (inl p) (at q) = q p
      first (inr p) (at q) = h p
      first t (next p q k) = h p
  Higher-asym total xs ys (next p q h) (at k) = k p
  Higher-asym total xs ys (next {xs = xs'} {ys = ys'} p q h) (next r s k) = Higher-asym total xs' ys' h k

  pub trichotomy : ((x y : A) → Dec (x ⊑ y)) → (xs ys : List A) → length xs ≡ length ys →
      Equal ◌⊑◌ xs ys ⊎ (Higher ◌⊑◌ xs ys ⊎ Higher ◌⊑◌ ys xs)
  trichotomy ⊑? [] [] e = inl none
  trichotomy ⊑? [] (y ∷ ys) e = absurd (omega arith)
  trichotomy ⊑? (x ∷ xs) [] e = absurd (omega arith)
  trichotomy ⊑? (x ∷ xs) (y ∷ ys) e = go (trichotomy ⊑? xs ys (omega arith)) (⊑? x y) (⊑? y x)
    where
      go : Equal ◌⊑◌ xs ys ⊎ (Higher ◌⊑◌ xs ys ⊎ Higher ◌⊑◌ ys xs) → Dec (x ⊑ y) → Dec (y ⊑ x) →
          Equal ◌⊑◌ (x ∷ xs) (y ∷ ys) ⊎ (Higher ◌⊑◌ (x ∷ xs) (y ∷ ys) ⊎ Higher ◌⊑◌ (y ∷ ys) (x ∷ xs))
      go ih (no p) d = inr (inr (at p))
      go ih (yes p) (no q) = inr (inl (at q))
      go (inl h) (yes p) (yes q) = inl (both p q h)
      go (inr (inl h)) (yes p) (yes q) = inr (inl (next p q h))
      go (inr (inr h)) (yes p) (yes q) = inr (inr (next q p h))

  -- ---- sorting keeps what the elements have, what they sum up to, and how many they are

  module _ (⊑? : (x y : A) → Dec (x ⊑ y)) where
    insert-All : (P : A → Type 0) (x : A) (xs : List A) → P x → All P xs → All P (insert ◌⊑◌ ⊑? x xs)
    unfolding insert
    insert-All P x [] p a = (p, tt)
    insert-All P x (y ∷ ys) p a = go (insert-All P x ys p a.1) (⊑? x y)
      where
        go : All P (insert ◌⊑◌ ⊑? x ys) → (d : Dec (x ⊑ y)) → All P (choose d (x ∷ y ∷ ys) (y ∷ insert ◌⊑◌ ⊑? x ys))
        go ih (yes l) = (p, a)
        go ih (no l) = (a.0, ih)

    pub sort-All : (P : A → Type 0) (xs : List A) → All P xs → All P (sort ◌⊑◌ ⊑? xs)
    unfolding sort
    sort-All P [] a = tt
    sort-All P (x ∷ xs) a = insert-All P x (sort ◌⊑◌ ⊑? xs) a.0 (sort-All P xs a.1)

    insert-sum : (f : A → ℕ) (x : A) (xs : List A) → list_sum f (insert ◌⊑◌ ⊑? x xs) ≡ f x + list_sum f xs
    unfolding insert list_sum
    insert-sum f x [] = refl
    insert-sum f x (y ∷ ys) = go (insert-sum f x ys) (⊑? x y)
      where
        go : list_sum f (insert ◌⊑◌ ⊑? x ys) ≡ f x + list_sum f ys → (d : Dec (x ⊑ y)) →
            list_sum f (choose d (x ∷ y ∷ ys) (y ∷ insert ◌⊑◌ ⊑? x ys)) ≡ f x + (f y + list_sum f ys)
        go ih (yes l) = refl
        go ih (no l) = omega arith

    pub sort-sum : (f : A → ℕ) (xs : List A) → list_sum f (sort ◌⊑◌ ⊑? xs) ≡ list_sum f xs
    unfolding sort list_sum
    sort-sum f [] = refl
    sort-sum f (x ∷ xs) = omega (arith, insert-sum f x (sort ◌⊑◌ ⊑? xs), sort-sum f xs)

    insert-length : (x : A) (xs : List A) → length (insert ◌⊑◌ ⊑? x xs) ≡ suc (length xs)
    unfolding insert
    insert-length x [] = refl
    insert-length x (y ∷ ys) = go (insert-length x ys) (⊑? x y)
      where
        go : length (insert ◌⊑◌ ⊑? x ys) ≡ suc (length ys) → (d : Dec (x ⊑ y)) →
            length (choose d (x ∷ y ∷ ys) (y ∷ insert ◌⊑◌ ⊑? x ys)) ≡ suc (suc (length ys))
        go ih (yes l) = refl
        go ih (no l) = ap suc ih

    pub sort-length : (xs : List A) → length (sort ◌⊑◌ ⊑? xs) ≡ length xs
    unfolding sort
    sort-length [] = refl
    sort-length (x ∷ xs) = insert-length x (sort ◌⊑◌ ⊑? xs) ∙ ap suc (sort-length xs)

-- ---- numbers

abbrev pub Sorted : List ℕ → Type 0
Sorted [] = Unit {0}
Sorted (x ∷ xs) = All (λ y. x ≤ y) xs × Sorted xs

insert-Sorted : (x : ℕ) (xs : List ℕ) → Sorted xs → Sorted (insert ◌≤◌ dec_le x xs)
unfolding insert
insert-Sorted x [] s = (tt, tt)
insert-Sorted x (y ∷ ys) s = go (insert-Sorted x ys s.1) (dec_le x y)
  where
    go : Sorted (insert ◌≤◌ dec_le x ys) → (d : Dec (x ≤ y)) → Sorted (choose d (x ∷ y ∷ ys) (y ∷ insert ◌≤◌ dec_le x ys))
    go ih (yes l) = ((l, All-map (λ z. y ≤ z) (λ z. x ≤ z) (λ z h. le_trans l h) ys s.0), s)
    go ih (no l) = (insert-All ◌≤◌ dec_le (λ z. y ≤ z) x ys (omega arith) s.0, ih)

pub sort-Sorted : (xs : List ℕ) → Sorted (sort ◌≤◌ dec_le xs)
unfolding sort
sort-Sorted [] = tt
sort-Sorted (x ∷ xs) = insert-Sorted x (sort ◌≤◌ dec_le xs) (sort-Sorted xs)

-- ---- the weight of a list of numbers

module _ (B N : ℕ) where
  unfoldable pub weigh : List ℕ → ℕ
  weigh xs = list_sum (λ x. B ^ (N - x)) xs

  pub weigh-Equal : (xs ys : List ℕ) → Equal ◌≤◌ xs ys → weigh xs ≡ weigh ys
  unfolding weigh list_sum
  weigh-Equal xs ys none = refl
  weigh-Equal xs ys (both {xs = xs'} {ys = ys'} p q l) =
      omega (arith, weigh-Equal xs' ys' l, ap (λ (z : ℕ). B ^ (N - z)) (le_antisymm p q))

  module _ (pos : 0 < B) where
    weigh-most : (b : ℕ) (ys : List ℕ) → All (λ y. b ≤ y) ys → weigh ys ≤ length ys * B ^ (N - b)
    unfolding weigh list_sum
    weigh-most b [] a = omega (arith, zero-mul (B ^ (N - b)))
    weigh-most b (y ∷ ys) a =
        let first : B ^ (N - y) ≤ B ^ (N - b) = pow-le-pow_right pos (omega (arith, a.0)) in
        rw suc-mul (omega (arith, weigh-most b ys a.1))

    pub weigh-Higher : (xs ys : List ℕ) → Higher ◌≤◌ xs ys → Sorted ys → All (λ y. y ≤ N) ys → length ys < B → weigh ys < weigh xs
    unfolding weigh list_sum
    weigh-Higher xs ys (next {xs = xs'} {ys = ys'} p q h) s a l =
        omega (
          arith,
          weigh-Higher xs' ys' h s.1 a.1 (omega arith),
          ap (λ (z : ℕ). B ^ (N - z)) (le_antisymm p q),
        )
    weigh-Higher xs ys (at {x = x} {y = y} {ys = ys'} h) s a l =
        let b : x < y = omega arith in
        let e : N - x ≡ suc (N - suc x) = omega (arith, a.0) in
        omega (
          arith,
          weigh-most (suc x) (y ∷ ys') (b, All-map (λ z. y ≤ z) (λ z. x < z) (λ z c. le_trans b c) ys' s.0),
          mul-lt-mul_of_pos_right {k = B ^ (N - suc x)} l (one-le-pow (N - suc x) B pos),
          ap (λ (z : ℕ). B ^ z) e,
          pow-suc B (N - suc x),
          mul_comm (B ^ (N - suc x)) B,
        )

-- ---- carried to another type whose order is that of numbers

module _ {A : Type 0} (◌⊑◌ : A → A → Type 0) (⊑? : (x y : A) → Dec (x ⊑ y)) (Good : A → Type 0) (f : A → ℕ)
    (same : (x y : A) → Good x → Good y → (x ⊑ y) ↔ (f x ≤ f y))
  where
    infix 50 ◌⊑◌
    insert-map : (x : A) (xs : List A) → Good x → All Good xs → map f (insert ◌⊑◌ ⊑? x xs) ≡ insert ◌≤◌ dec_le (f x) (map f xs)
    unfolding insert
    insert-map x [] g a = refl
    insert-map x (y ∷ ys) g a = go (insert-map x ys g a.1) (⊑? x y) (dec_le (f x) (f y))
      where
        go : map f (insert ◌⊑◌ ⊑? x ys) ≡ insert ◌≤◌ dec_le (f x) (map f ys) → (d : Dec (x ⊑ y)) (e : Dec (f x ≤ f y)) →
            map f (choose d (x ∷ y ∷ ys) (y ∷ insert ◌⊑◌ ⊑? x ys))
            ≡ choose e (f x ∷ f y ∷ map f ys) (f y ∷ insert ◌≤◌ dec_le (f x) (map f ys))
        go ih (yes p) (yes q) = refl
        go ih (yes p) (no q) = absurd (q ((same x y g a.0).0 p))
        go ih (no p) (yes q) = absurd (p ((same x y g a.0).1 q))
        go ih (no p) (no q) = ap (λ (l : List ℕ). f y ∷ l) ih

    pub sort-map : (xs : List A) → All Good xs → map f (sort ◌⊑◌ ⊑? xs) ≡ sort ◌≤◌ dec_le (map f xs)
    unfolding sort
    sort-map [] a = refl
    sort-map (x ∷ xs) a =
        insert-map x (sort ◌⊑◌ ⊑? xs) a.0 (sort-All ◌⊑◌ ⊑? Good xs a.1) ∙ ap (insert ◌≤◌ dec_le (f x)) (sort-map xs a.1)

    pub Higher-map : (xs ys : List A) → All Good xs → All Good ys → Higher ◌⊑◌ xs ys → Higher ◌≤◌ (map f xs) (map f ys)
    Higher-map xs ys a b (at {x = x} {y = y} h) = at (λ l. h ((same y x b.0 a.0).1 l))
    Higher-map xs ys a b (next {x = x} {y = y} {xs = xs'} {ys = ys'} p q h) =
        next ((same x y a.0 b.0).0 p) ((same y x b.0 a.0).0 q) (Higher-map xs' ys' a.1 b.1 h)

    pub Higher-unmap : (xs ys : List A) → All Good xs → All Good ys → Higher ◌≤◌ (map f xs) (map f ys) → Higher ◌⊑◌ xs ys
    Higher-unmap [] ys a b h = elim h [ ]
    Higher-unmap (x ∷ xs) [] a b h = elim h [ ]
    Higher-unmap (x ∷ xs) (y ∷ ys) a b (at h) = at (λ l. h ((same y x b.0 a.0).0 l))
    Higher-unmap (x ∷ xs) (y ∷ ys) a b (next p q h) =
        next ((same x y a.0 b.0).1 p) ((same y x b.0 a.0).1 q) (Higher-unmap xs ys a.1 b.1 h)

    -- the order is transitive, so equality is
    pub Equal-trans : (xs ys zs : List A) → All Good xs → All Good ys → All Good zs → Equal ◌⊑◌ xs ys → Equal ◌⊑◌ ys zs → Equal ◌⊑◌ xs zs
    Equal-trans xs ys zs a b c none none = none
    Equal-trans xs ys zs a b c (both {x = x} {y = y} {xs = xs'} {ys = ys'} p q d) (both {y = z} {ys = zs'} r s e) =
        both (step x y z a.0 b.0 c.0 p r) (step z y x c.0 b.0 a.0 s q)
        (Equal-trans xs' ys' zs' a.1 b.1 c.1 d e)
      where
        step : (x y z : A) → Good x → Good y → Good z → x ⊑ y → y ⊑ z → x ⊑ z
        step x y z g h k p q = (same x z g k).1 (le_trans ((same x y g h).0 p) ((same y z h k).0 q))
