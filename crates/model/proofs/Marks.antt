-- The mark that is computed is the one that holds. Assumes nothing.
use mathlib.Core.Path.{◌≡◌, refl, sym, ◌∙◌}
use mathlib.Core.Bool.{Bool, true, false, ◌&&◌}
use mathlib.Core.Logic.{◌⊎◌, inl, inr, ◌↔◌}
use Rattle.std.specs.Prelude.{None, Some}
use Prim.Native.Nat.{ℕ, ◌-◌, ◌≤◌, ◌<◌}
use native.Mathlib.Nat.{lt_trans}
use native.Mathlib.Decide.{dec_lt}
use native.Mathlib.Omega.{arith}
use lib.Dec.{ltb}
use lib.ListN.{get_or}
use borrow.Author.Tests.{ltb-true, ltb-false, lt-ltb, le-ltb}
use Rattle.fairness.specs.Instance.{Wasteful, placed}
use Rattle.fairness.specs.Exchange.{improves_at, ties_at, Improvable, Tied}
use Rattle.fairness.proofs.Theorems
use Rattle.model.specs.Lowest.{is_some}
use Rattle.model.specs.Book.{Book, Grid, cell, seats, windows, instance_of}
use Rattle.model.specs.Search.{Found, Picked}
use Rattle.model.specs.Marks.{Mark, wasteful, improvable, tied, settled, Wasted, Marked}
use Rattle.model.specs.Marks.{seat_below, wasted_window, mark_of, Result, result_of}
use Rattle.model.proofs.Tests.{and-true, not-true, true-not-false}
use Rattle.model.proofs.Lowest.{Lowest, Fails, lowest-is, lowest-fails, lowest-cases, is_some-lowest, is_some-Lowest}
use Rattle.model.proofs.Meaning.{search-cases, search-some, search-none}

module _ (b : Book) (s : Grid) where
  -- ---- no test passes of a seat and itself

  improves-apart : (g : ℕ) → improves_at (instance_of b) (cell s) g g ≡ false
  improves-apart g = not-true _ (Theorems.improves-apart (instance_of b) (cell s) g)

  ties-apart : (g : ℕ) → ties_at (instance_of b) (cell s) g g ≡ false
  ties-apart g = not-true _ (Theorems.ties-apart (instance_of b) (cell s) g)

  -- ---- waste

  below : ℕ → ℕ → Bool
  below j i = ltb (cell s i j) (cell b.caps i j)

  wastes : ℕ → Bool
  wastes j = ltb (placed (instance_of b) (cell s) j) (get_or b.supplies j 0) && is_some (seat_below b s j)

  wastes-at : (w : Wasteful (instance_of b) (cell s)) → (w.window < windows b) × (wastes w.window ≡ true)
  unfolding wastes seat_below below instance_of
  wastes-at w = (
    w.in_window,
    (and-true _ _).1 (
      lt-ltb _ _ w.left,
      is_some-lowest (seats b) (below w.window) w.seat w.in_seat (lt-ltb _ _ w.room),
    ),
  )

  -- the lowest wasted window has a lowest seat
  wasted-at : (j : ℕ) → Lowest (windows b) wastes j → (i : ℕ) × ((seat_below b s j ≡ Some i) × Wasted b s j i)
  unfolding wastes seat_below below instance_of
  wasted-at j h =
      let both = (and-true _ _).0 h.passes in
      let found = is_some-Lowest (seats b) (below j) both.1 in (
        found.0,
        (
          lowest-is (seats b) (below j) found.0 found.1,
          record {
            window = h.below;
            seat = found.1.below;
            left = ltb-true _ _ both.0;
            room = ltb-true _ _ found.1.passes;
            lowest_window = λ w. at w (dec_lt w.window j);
            lowest_seat = λ k lk. ltb-false _ _ (found.1.least k lk);
          },
        ),
      )
    where
      at : (w : Wasteful (instance_of b) (cell s)) → Dec (w.window < j) → j ≤ w.window
      at w (yes l) = absurd (true-not-false _ (wastes-at w).1 (h.least w.window l))
      at w (no l) = omega arith

  -- what is wasted lowest is wasted
  pub waste-of : (j i : ℕ) → Wasted b s j i → Wasteful (instance_of b) (cell s)
  unfolding instance_of
  waste-of j i h = record { window = j; seat = i; in_window = h.window; in_seat = h.seat; left = h.left; room = h.room }

  wasted-is : (j i : ℕ) → Wasted b s j i → (wasted_window b s ≡ Some j) × (seat_below b s j ≡ Some i)
  unfolding wasted_window wastes seat_below below instance_of waste-of
  wasted-is j i h = (
    lowest-is (windows b) wastes j (record {
      below = h.window;
      passes = (wastes-at (waste-of j i h)).1;
      least = λ k lk. not-true _ (earlier k lk);
    }),
    lowest-is (seats b) (below j) i (record {
      below = h.seat;
      passes = lt-ltb _ _ h.room;
      least = λ k lk. le-ltb _ _ (h.lowest_seat k lk);
    }),
  )
    where
      earlier : (k : ℕ) → k < j → wastes k ≡ true → ⊥
      earlier k lk e =
          let both = (and-true _ _).0 e in
          let found = is_some-Lowest (seats b) (below k) both.1 in
          let waste : Wasteful (instance_of b) (cell s) = record {
            window = k;
            seat = found.0;
            in_window = lt_trans lk h.window;
            in_seat = found.1.below;
            left = ltb-true _ _ both.0;
            room = ltb-true _ _ found.1.passes;
          } in
          omega (arith, h.lowest_window waste)

  -- ---- the mark

  -- nothing is wasted, or the lowest window and seat are
  waste-cases : (Wasteful (instance_of b) (cell s) → ⊥) ⊎ ((j : ℕ) × ((i : ℕ) × Wasted b s j i))
  waste-cases = go (lowest-cases (windows b) wastes)
    where
      go : Fails (windows b) wastes ⊎ ((j : ℕ) × Lowest (windows b) wastes j) →
          (Wasteful (instance_of b) (cell s) → ⊥) ⊎ ((j : ℕ) × ((i : ℕ) × Wasted b s j i))
      go (inl fails) = inl (λ w. let at = wastes-at w in true-not-false _ at.1 (fails w.window at.0))
      go (inr low) = let found = wasted-at low.0 low.1 in inr (low.0, (found.0, found.1.1))

  unwasted : (Wasteful (instance_of b) (cell s) → ⊥) → wasted_window b s ≡ None
  unfolding wasted_window wastes
  unwasted q = lowest-fails (windows b) wastes (λ j lj. not-true _ (λ e. at j (lowest-cases (windows b) wastes) lj e))
    where
      at : (j : ℕ) → Fails (windows b) wastes ⊎ ((k : ℕ) × Lowest (windows b) wastes k) → j < windows b → wastes j ≡ true → ⊥
      at j (inl fails) lj e = true-not-false _ e (fails j lj)
      at j (inr low) lj e = let found = wasted-at low.0 low.1 in q (waste-of low.0 found.0 found.1.1)

  mark-is : (m : Mark) → Marked b s m → mark_of b s ≡ m
  unfolding mark_of
  mark-is (wasteful j i) h = let e = wasted-is j i h in rw (e.0, e.1) refl
  mark-is (improvable f) h =
      rw (unwasted h.0, (search-some b s (improves_at (instance_of b) (cell s)) improves-apart f).1 h.1) refl
  mark-is (tied f) h =
      rw (
        unwasted h.0,
        (search-none b s (improves_at (instance_of b) (cell s)) improves-apart).1 h.1,
        (search-some b s (ties_at (instance_of b) (cell s)) ties-apart f).1 h.2,
      ) refl
  mark-is settled h =
      rw (
        unwasted h.0,
        (search-none b s (improves_at (instance_of b) (cell s)) improves-apart).1 h.1,
        (search-none b s (ties_at (instance_of b) (cell s)) ties-apart).1 h.2,
      ) refl

  -- some mark holds
  marked : (m : Mark) × Marked b s m
  marked =
      go waste-cases
      (search-cases b s (improves_at (instance_of b) (cell s)) improves-apart)
      (search-cases b s (ties_at (instance_of b) (cell s)) ties-apart)
    where
      go : (Wasteful (instance_of b) (cell s) → ⊥) ⊎ ((j : ℕ) × ((i : ℕ) × Wasted b s j i)) →
          (Improvable (instance_of b) (cell s) → ⊥) ⊎ ((f : Found) × Picked b s (improves_at (instance_of b) (cell s)) f) →
          (Tied (instance_of b) (cell s) → ⊥) ⊎ ((f : Found) × Picked b s (ties_at (instance_of b) (cell s)) f) →
          (m : Mark) × Marked b s m
      go (inr w) x y = (wasteful w.0 w.1.0, w.1.1)
      go (inl q) (inr x) y = (improvable x.0, (q, x.1))
      go (inl q) (inl x) (inr y) = (tied y.0, (q, x, y.1))
      go (inl q) (inl x) (inl y) = (settled, (q, x, y))

  -- a mark is computed exactly where what it says holds
  pub mark-means : (m : Mark) → (mark_of b s ≡ m) ↔ Marked b s m
  mark-means m = (to, mark-is m)
    where
      to : mark_of b s ≡ m → Marked b s m
      to e = let same : marked.0 ≡ m = sym (mark-is marked.0 marked.1) ∙ e in rw same at marked.1

  -- ---- how large a result's numbers are, which count from 1

  -- a chain has fewer moves than there are seats
  few-moves : (test : ℕ → ℕ → Bool) (f : Found) → Picked b s test f → f.moves < seats b
  unfolding instance_of
  few-moves test f p =
      let path = p.shortest in
      let short = Theorems.path-length (instance_of b) (cell s) f.receiver f.donor path.moves p.seat path.path in
      omega (arith, short, path.count)

  pub record Within (r : Result) : Type 0 where
    pub window : r.window ≤ windows b
    pub seat : r.seat ≤ seats b
    pub moves : r.moves ≤ seats b - 1

  within-marked : (m : Mark) → Marked b s m → Within (result_of m)
  within-marked (wasteful j i) w = record { window = omega (arith, w.window); seat = omega (arith, w.seat); moves = omega arith }
  within-marked (improvable f) p =
      let few = few-moves (improves_at (instance_of b) (cell s)) f p.1 in
      record { window = omega arith; seat = omega arith; moves = omega (arith, few) }
  within-marked (tied f) p =
      let few = few-moves (ties_at (instance_of b) (cell s)) f p.2 in
      record { window = omega arith; seat = omega arith; moves = omega (arith, few) }
  within-marked settled p = record { window = omega arith; seat = omega arith; moves = omega arith }

  pub within-book : Within (result_of (mark_of b s))
  within-book = within-marked (mark_of b s) ((mark-means (mark_of b s)).0 refl)
