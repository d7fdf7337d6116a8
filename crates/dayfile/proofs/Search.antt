-- Loops that search for the lowest number that passes a test, and what the offset of the answer tells.
-- Assumes nothing.
use mathlib.Core.Bool.{Bool, true, false, not}
use mathlib.Core.List.{List}
use Rattle.std.specs.Prelude.{Option, None, Some}
use mathlib.Core.Path.{◌≡◌, refl, sym, ◌∙◌, ap, ap₂}
use Prim.Native.Nat.{ℕ, zero, suc, ◌+◌, ◌*◌, ◌≤◌, ◌<◌, zero-le}
use native.Mathlib.Numerals.{add-one}
use native.Mathlib.Omega.{arith}
use Rattle.model.specs.Lowest.{lowest}
use Rattle.model.proofs.Lowest.{lowest-is, lowest-none}
use Rattle.dayfile.specs.Layout.{field}
use Rattle.dayfile.specs.Table.{offset, previous, right_after, number_right, wrong_field, outside}
use Rattle.dayfile.proofs.Tests.{turned}

-- ---- a search in progress

module _ (bad : ℕ → Bool) where
  pub none_first : None ≡ lowest 0 bad
  unfolding lowest
  none_first = refl

  none-next : (i : ℕ) → lowest i bad ≡ None → bad i ≡ false → lowest (suc i) bad ≡ None
  unfolding lowest
  none-next i h p = rw (h, p)

  pub none_more : {i : ℕ} → lowest i bad ≡ None → bad i ≡ false → lowest (i + 1) bad ≡ None
  none_more {i} h p = ap (λ (n : ℕ). lowest n bad) (add-one i) ∙ none-next i h p

  pub found_here : {i n m : ℕ} → lowest i bad ≡ None → bad i ≡ true → i < n → n ≡ m → Some i ≡ lowest m bad
  found_here {i} {n} {m} h p l q =
      sym (lowest-is m bad i (record { below = omega arith; passes = p; least = lowest-none i bad h }))

  pub none_here : {i n m : ℕ} → lowest i bad ≡ None → i ≤ n → n ≤ i → n ≡ m → None ≡ lowest m bad
  none_here {i} {n} {m} h l g q = sym (ap (λ (k : ℕ). lowest k bad) {x = m} {y = i} (omega arith) ∙ h)

-- ---- the loop that searches n places, of m in all: `while i < n { if bad(i) { return i; } i += 1; }`

-- none of the places before i is bad
pub record Searching (bad : ℕ → Bool) (m n i : ℕ) : Type 0 where
  pub inside : i ≤ n
  pub whole : n ≡ m
  pub clear : lowest i bad ≡ None

module _ {bad : ℕ → Bool} {m n : ℕ} where
  pub search-first : n ≡ m → Searching bad m n 0
  search-first e = record { inside = zero-le; whole = e; clear = sym (none_first bad) }

  pub search-on : {i : ℕ} → Searching bad m n i → i < n → bad i ≡ false → Searching bad m n (i + 1)
  search-on s l p = record { inside = omega arith; whole = s.whole; clear = none_more bad s.clear p }

  pub search-hit : {i : ℕ} → Searching bad m n i → i < n → bad i ≡ true → Some i ≡ lowest m bad
  search-hit s l p = found_here bad s.clear p l s.whole

  pub search-end : {i : ℕ} → Searching bad m n i → n ≤ i → None ≡ lowest m bad
  search-end s l = none_here bad s.clear s.inside l s.whole

-- ---- the same loop through a row of numbers, where each is held against the one before:
-- `while i < n { if !right_after(.., before, x(i)) { return i; } before = x(i); i += 1; }`

pub record Following (low high : ℕ) (rising : Bool) (x : ℕ → ℕ) (n before i : ℕ) : Type 0 where
  pub search : Searching (λ k. not (number_right low high rising x k)) n n i
  pub last : before ≡ previous x i

module _ {low high : ℕ} {rising : Bool} {x : ℕ → ℕ} {n : ℕ} where
  pub follow-first : Following low high rising x n 0 0
  follow-first = record { search = search-first refl; last = refl }

  -- the code's test of number i
  follow-test : {before i y : ℕ} {t : Bool} → Following low high rising x n before i → t ≡ right_after low high rising before y → y ≡ x i
      → t ≡ number_right low high rising x i
  follow-test s e q = e ∙ ap₂ (right_after low high rising) s.last q

  pub follow-on : {before i y : ℕ} {t : Bool} → Following low high rising x n before i → i < n
      → t ≡ right_after low high rising before y → y ≡ x i → not t ≡ false → Following low high rising x n y (i + 1)
  follow-on {before} {i} s l e q h =
      record { search = search-on s.search l (turned (follow-test s e q) h); last = q ∙ sym (ap (previous x) (add-one i)) }

  pub follow-hit : {before i y : ℕ} {t : Bool} → Following low high rising x n before i → i < n
      → t ≡ right_after low high rising before y → y ≡ x i → not t ≡ true
      → Some i ≡ lowest n (λ k. not (number_right low high rising x k))
  follow-hit s l e q h = search-hit s.search l (turned (follow-test s e q) h)

  pub follow-end : {before i : ℕ} → Following low high rising x n before i → n ≤ i
      → None ≡ lowest n (λ k. not (number_right low high rising x k))
  follow-end s l = search-end s.search l

-- through the fields of a file from `at` on, by their offsets, two bytes each: `while p + 1 < end { ..; p += 2; }`
pub record Walking (f : List ℕ) (low high : ℕ) (rising : Bool) (at n end before p : ℕ) : Type 0 where
  pub place : ℕ
  pub here : p ≡ at + 2 * place
  pub ends : end ≡ at + 2 * n
  pub follow : Following low high rising (λ k. field f (at + 2 * k)) n before place

module _ {f : List ℕ} {low high : ℕ} {rising : Bool} {at n end : ℕ} where
  pub walk_first : end ≡ at + 2 * n → Walking f low high rising at n end 0 at
  walk_first e = record { place = 0; here = omega arith; ends = e; follow = follow-first }

  pub walk-on : {before p y : ℕ} {t : Bool} → Walking f low high rising at n end before p → p + 1 < end
      → t ≡ right_after low high rising before y → y ≡ field f p → not t ≡ false → Walking f low high rising at n end y (p + 2)
  walk-on w l e q h =
      let p = w.here in
      let z = w.ends in
      record {
        place = w.place + 1;
        here = omega arith;
        ends = z;
        follow = follow-on w.follow (omega arith) e (q ∙ ap (field f) p) h;
      }

  pub walk-hit : {before p y : ℕ} {t : Bool} → Walking f low high rising at n end before p → p + 1 < end
      → t ≡ right_after low high rising before y → y ≡ field f p → not t ≡ true → Some p ≡ wrong_field f at n low high rising
  unfolding wrong_field
  walk-hit w l e q h =
      let p = w.here in
      let z = w.ends in
      ap Some p ∙ ap (offset (λ i. at + 2 * i)) (follow-hit w.follow (omega arith) e (q ∙ ap (field f) p) h)

  pub walk_end : {before p : ℕ} → Walking f low high rising at n end before p → end ≤ p + 1 → None ≡ wrong_field f at n low high rising
  unfolding wrong_field
  walk_end w l =
      let p = w.here in
      let z = w.ends in ap (offset (λ i. at + 2 * i)) (follow-end w.follow (omega arith))

-- the fields of a body, where its start and their number are told
pub outside-as : (f : List ℕ) (low high : ℕ) {r : Option ℕ} {a b n m : ℕ}
    → r ≡ outside f a n low high → a ≡ b → n ≡ m → r ≡ outside f b m low high
outside-as f low high h p q = h ∙ ap₂ (λ (a n : ℕ). outside f a n low high) p q

-- ---- what the answer tells

pub offset-none : (at : ℕ → ℕ) (o : Option ℕ) → offset at o ≡ None → o ≡ None
offset-none at None e = refl
offset-none at (Some p) e = let z : ◌≡◌ {A = ℕ} 0 1 = cc in absurd (omega arith)

pub offset-some : (at : ℕ → ℕ) (o : Option ℕ) (p : ℕ) → offset at o ≡ Some p → (i : ℕ) × (o ≡ Some i) × (p ≡ at i)
offset-some at None p h = let z : ◌≡◌ {A = ℕ} 0 1 = cc in absurd (omega arith)
offset-some at (Some i) p h = (i, refl, cc)

-- two tests that agree find the same
pub same-search : (bad worse : ℕ → Bool) (n : ℕ) → ((i : ℕ) → i < n → bad i ≡ worse i) → lowest n bad ≡ lowest n worse
unfolding lowest
same-search bad worse zero h = refl
same-search bad worse (suc n) h = rw (same-search bad worse n (λ i p. h i (omega arith)), h n (omega arith))

-- a number is right by itself and the one before it, so rows with the same n numbers have the same first wrong one
module _ (low high : ℕ) (rising : Bool) (x y : ℕ → ℕ) where
  pub right-same : (i : ℕ) → ((k : ℕ) → k ≤ i → x k ≡ y k) → number_right low high rising x i ≡ number_right low high rising y i
  right-same zero h = ap (right_after low high rising 0) (h 0 (omega arith))
  right-same (suc i) h = ap₂ (right_after low high rising) (h i (omega arith)) (h (suc i) (omega arith))

  pub wrong-same : (n : ℕ) → ((k : ℕ) → k < n → x k ≡ y k)
      → lowest n (λ i. not (number_right low high rising x i)) ≡ lowest n (λ i. not (number_right low high rising y i))
  wrong-same n h =
      same-search (λ i. not (number_right low high rising x i)) (λ i. not (number_right low high rising y i)) n
      (λ i l. ap not (right-same i (λ k m. h k (omega arith))))
