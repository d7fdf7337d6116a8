-- The kinds of a file's entries rise, so the entry of a kind is found by going up once: at each kind either the next entry has it, or
-- no entry has.
-- Assumes nothing.
use mathlib.Core.Bool.{Bool, true, cond}
use mathlib.Core.List.{List}
use mathlib.Core.Logic.{⊎_elim}
use Rattle.std.specs.Prelude.{None, Some}
use mathlib.Core.Path.{◌≡◌, refl, sym, ◌∙◌, ap}
use Prim.Native.Nat.{ℕ, zero, suc, ◌+◌, ◌-◌, ◌≤◌, ◌<◌}
use native.Mathlib.Nat.{le_of_suc-le-suc, eq-or-lt_of_le}
use native.Mathlib.Decide.{dec_lt}
use native.Mathlib.Omega.{arith}
use lib.Dec.{eqb}
use borrow.Author.Tests.{eq-eqb, ne_eqb, eqb-true, le-ltb}
use Rattle.model.proofs.Lowest.{lowest-fails}
use Rattle.dayfile.specs.Layout.{count, kind, entry_of}
use Rattle.dayfile.specs.Table.{within, known, kind_right}
use Rattle.dayfile.proofs.Tests.{within_low, within-high}
use Rattle.dayfile.proofs.Search.{found_here}

-- the kinds of the entries are right
pub record InOrder (f : List ℕ) : Type 0 where
  pub many : 3 ≤ count f
  pub right : (e : ℕ) → e < count f → kind_right f e ≡ true

module _ (f : List ℕ) (o : InOrder f) where
  pub kind-one : kind f 0 ≡ 1
  unfolding kind_right
  kind-one = let m = o.many in eqb-true (kind f 0) 1 (o.right 0 (omega arith))

  pub kind-two : kind f 1 ≡ 2
  unfolding kind_right
  kind-two = let m = o.many in eqb-true (kind f 1) 2 (o.right 1 (omega arith))

  pub kind-three : kind f 2 ≡ 3
  unfolding kind_right
  kind-three = let m = o.many in eqb-true (kind f 2) 3 (o.right 2 (omega arith))

  -- ---- the kinds after the third

  later : (e : ℕ) → 3 ≤ suc e → suc e < count f → within (kind f e + 1) known (kind f (suc e)) ≡ true
  unfolding kind_right
  later e h l =
      let next : ℕ → Bool = λ k. within (kind f k + 1) known (kind f (suc e)) in
      let pick : Bool → Bool = λ t. cond t (eqb (kind f (suc e)) (suc e + 1)) (next (suc e - 1)) in
      ap next {x = e} {y = suc e - 1} (omega arith) ∙ sym (ap pick (le-ltb (suc e) 3 h)) ∙ o.right (suc e) l

  pub kind-known : (e : ℕ) → 3 ≤ e → e < count f → kind f e ≤ known
  kind-known zero h l = absurd (omega arith)
  kind-known (suc e) h l = within-high (kind f e + 1) known (kind f (suc e)) (later e h l)

  rises : (e d : ℕ) → 2 ≤ e → suc (d + e) < count f → kind f e < kind f (suc (d + e))
  rises e zero h l =
      let r = within_low (kind f (zero + e) + 1) known (kind f (suc (zero + e))) (later (zero + e) (omega arith) l) in
      let q = ap (kind f) {x = zero + e} {y = e} (omega arith) in omega arith
  rises e (suc d) h l =
      let r = within_low (kind f (suc d + e) + 1) known (kind f (suc (suc d + e))) (later (suc d + e) (omega arith) l) in
      let ih = rises e d h (omega arith) in
      let q = ap (kind f) {x = suc d + e} {y = suc (d + e)} (omega arith) in omega arith

  pub rise : (e j : ℕ) → 2 ≤ e → e < j → j < count f → kind f e < kind f j
  rise e j h l m =
      let r = rises e (j - suc e) h (omega arith) in
      let q = ap (kind f) {x = suc (j - suc e + e)} {y = j} (omega arith) in omega arith

  -- ---- going up

  -- below entry e the kinds are below lo, and from it on they are not
  pub record Split (e lo : ℕ) : Type 0 where
    pub front : 3 ≤ e
    pub inside : e ≤ count f
    pub below : (j : ℕ) → j < e → kind f j < lo
    pub above : (j : ℕ) → e ≤ j → j < count f → lo ≤ kind f j

  pub split-first : Split 3 4
  split-first =
      record {
        front = omega arith;
        inside = o.many;
        below = λ j l. first j l;
        above = λ j h l. let r = rise 2 j (omega arith) h l in let t = kind-three in omega arith;
      }
    where
      first : (j : ℕ) → j < 3 → kind f j < 4
      first zero l = let t = kind-one in omega arith
      first (suc zero) l = let t = kind-two in omega arith
      first (suc (suc zero)) l = let t = kind-three in omega arith
      first (suc (suc (suc j))) l = absurd (omega arith)

  -- every kind is known
  pub kind-most : (e : ℕ) → e < count f → kind f e ≤ known
  kind-most e l =
      elim (dec_lt e 3) [ yes h ↦ (let b = split-first.below e h in omega arith) | no h ↦ kind-known e (omega arith) l ]

  -- the next entry has the kind
  pub hit : (e lo : ℕ) → Split e lo → e < count f → kind f e ≡ lo → entry_of f lo ≡ Some e
  unfolding entry_of
  hit e lo s l q =
      let has : ℕ → Bool = λ j. eqb (kind f j) lo in
      let clear = lowest-fails e has (λ j h. ne_eqb (kind f j) lo (λ p. let b = s.below j h in omega arith)) in
      sym (found_here has {i = e} {n = count f} clear (eq-eqb (kind f e) lo q) l refl)

  pub split-hit : (e lo : ℕ) → Split e lo → e < count f → kind f e ≡ lo → Split (suc e) (suc lo)
  split-hit e lo s l q =
      let x = s.front in
      record {
        front = omega arith;
        inside = l;
        below = λ j h. ⊎_elim (λ p. let k = ap (kind f) p in omega arith) (λ p. let b = s.below j p in omega arith)
            (eq-or-lt_of_le (le_of_suc-le-suc h));
        above = λ j h m. let r = rise e j (omega arith) h m in omega arith;
      }

  -- or no entry has
  pub miss : (e lo : ℕ) → Split e lo → (e < count f → kind f e ≡ lo → ⊥) → entry_of f lo ≡ None
  unfolding entry_of
  miss e lo s n = lowest-fails (count f) (λ j. eqb (kind f j) lo) (λ j h. ne_eqb (kind f j) lo (λ p. no_such j h p))
    where
      at_or_after : (j : ℕ) → j < count f → kind f j ≡ lo → e ≤ j → ⊥
      at_or_after j h p l =
          let x = s.front in
          ⊎_elim (λ q. n (omega arith) (ap (kind f) q ∙ p))
          (λ q. let r = rise e j (omega arith) q h in let a = s.above e (omega arith) (omega arith) in omega arith)
          (eq-or-lt_of_le {n = e} {m = j} l)

      no_such : (j : ℕ) → j < count f → kind f j ≡ lo → ⊥
      no_such j h p =
          elim (dec_lt j e) [ yes l ↦ (let b = s.below j l in omega arith) | no l ↦ at_or_after j h p (omega arith) ]

  pub split-miss : (e lo : ℕ) → Split e lo → (e < count f → kind f e ≡ lo → ⊥) → Split e (suc lo)
  split-miss e lo s n =
      record {
        front = s.front;
        inside = s.inside;
        below = λ j h. (let b = s.below j h in omega arith);
        above = λ j h m. ⊎_elim (λ q. at_place j q m) (λ q. after j q m) (eq-or-lt_of_le h);
      }
    where
      at_place : (j : ℕ) → e ≡ j → j < count f → suc lo ≤ kind f j
      at_place j q m =
          let k = ap (kind f) q in
          ⊎_elim (λ r. absurd (n (omega arith) (sym r))) (λ r. omega arith)
          (eq-or-lt_of_le {n = lo} {m = kind f e} (s.above e (omega arith) (omega arith)))

      after : (j : ℕ) → e < j → j < count f → suc lo ≤ kind f j
      after j q m =
          let x = s.front in
          let r = rise e j (omega arith) q m in
          let a = s.above e (omega arith) (omega arith) in omega arith

  -- an entry of a kind above 3 is the one that is found
  split_at : (e k : ℕ) → 4 ≤ k → e < count f → kind f e ≡ k → Split e k
  split_at e k h l q =
      record {
        front = elim (dec_lt e 3) [ yes m ↦ absurd (let b = split-first.below e m in omega arith) | no m ↦ omega arith ];
        inside = omega arith;
        below = λ j m.
            elim (dec_lt j 3) [
              | yes n ↦ (let b = split-first.below j n in omega arith)
              | no n ↦ (let r = rise j e (omega arith) m l in omega arith)
            ];
        above = λ j m n. ⊎_elim (λ p. let s = ap (kind f) p in omega arith) (λ p. after j p n) (eq-or-lt_of_le m);
      }
    where
      after : (j : ℕ) → e < j → j < count f → k ≤ kind f j
      after j p n =
          elim (dec_lt e 3) [
            | yes m ↦ absurd (let b = split-first.below e m in omega arith)
            | no m ↦ (let r = rise e j (omega arith) p n in omega arith)
          ]

  pub entry-is : (e k : ℕ) → 4 ≤ k → e < count f → kind f e ≡ k → entry_of f k ≡ Some e
  entry-is e k h l q = hit e k (split_at e k h l q) l q

  -- past the last kind there are no entries left
  pub split-last : (e : ℕ) → Split e (suc known) → e ≡ count f
  split-last e s =
      ⊎_elim (λ q. q)
      (λ l. let a = s.above e (omega arith) l in let b = kind-known e s.front l in absurd (omega arith))
      (eq-or-lt_of_le s.inside)
