-- Two halves of a cut: what a set of seats holds is at most the group's capacity, and a sheet that wastes nothing reaches it where the
-- set is closed.
use mathlib.Core.Path.{◌≡◌, refl, sym, ◌∙◌}
use Prim.Native.Nat.{ℕ, min, ◌+◌, ◌≤◌, ◌<◌}
use native.Mathlib.Nat.{le_refl, le_trans, le_antisymm}
use native.Mathlib.Decide.{dec_lt}
use native.Mathlib.Omega.{arith}
use Rattle.fairness.specs.Sums.{sum, keep, over}
use Rattle.fairness.specs.Instance.{Instance, Sheet, Feasible, Wasteful, placed, total, height, group_capacity}
use Rattle.fairness.specs.Cuts.{Closed}
use Rattle.fairness.proofs.Sums.{sum-le, sum-eq, sum-none, sum-add, sum-swap}
use Rattle.fairness.proofs.Decide.{keep-add, keep-le, keep-most, both?, below?}

-- a sum is kept term by term
pub keep-sum : {P : Type 0} (d : Dec P) (n : ℕ) (f : ℕ → ℕ) → keep d (sum n f) ≡ sum n (λ j. keep d (f j))
keep-sum (yes p) n f = refl
keep-sum (no q) n f = sym (sum-none n (λ j. 0) (λ j l. refl))

-- where a seat is below its cap, the window's supply is used up
used : (I : Instance) (S : Sheet) → (Wasteful I S → ⊥) →
    (i j : ℕ) → i < I.seats → j < I.windows → S i j < I.cap i j → I.supply j ≤ placed I S j
used I S full i j li lj r = go (dec_lt (placed I S j) (I.supply j))
  where
    go : Dec (placed I S j < I.supply j) → I.supply j ≤ placed I S j
    go (yes b) = absurd (full (record { window = j; seat = i; in_window = lj; in_seat = li; left = b; room = r }))
    go (no b) = omega arith

module _ (I : Instance) (P : ℕ → Type 0) (in? : (i : ℕ) → Dec (P i)) where
  -- the group's caps in a window
  abbrev caps : ℕ → ℕ
  caps j = over in? I.seats (λ i. I.cap i j)

  -- a sum of totals is the sum of the windows' sums
  over-total : (X : Sheet) → over in? I.seats (total I X) ≡ sum I.windows (λ j. over in? I.seats (λ i. X i j))
  over-total X =
      sum-eq I.seats (λ i. keep (in? i) (total I X i)) (λ i. sum I.windows (λ j. keep (in? i) (X i j)))
      (λ i l. keep-sum (in? i) I.windows (X i))
      ∙ sum-swap I.seats I.windows (λ i j. keep (in? i) (X i j))

  -- the weak half
  pub capacity-bounds : (T : Sheet) → Feasible I T → over in? I.seats (total I T) ≤ group_capacity I in?
  capacity-bounds T feasible = rw (over-total T) (sum-le I.windows _ _ (λ j lj. omega (arith, by-supply j lj, by-caps j lj)))
    where
      by-supply : (j : ℕ) → j < I.windows → over in? I.seats (λ i. T i j) ≤ I.supply j
      by-supply j lj =
          le_trans (sum-le I.seats _ (λ i. T i j) (λ i l. keep-most (in? i) (T i j))) (feasible.fits j lj)

      by-caps : (j : ℕ) → j < I.windows → over in? I.seats (λ i. T i j) ≤ caps j
      by-caps j lj =
          sum-le I.seats _ _ (λ i l. keep-le (in? i) (T i j) (I.cap i j) (λ p. feasible.within i j l lj))

  -- the tight half
  module _ (S : Sheet) (full : Wasteful I S → ⊥) (closed : Closed I S P) where
    window-full : (j : ℕ) → j < I.windows → min (I.supply j) (caps j) ≤ over in? I.seats (λ i. S i j)
    window-full j lj =
        go (below? (λ i. P i × (S i j < I.cap i j)) (λ i. both? (in? i) (dec_lt (S i j) (I.cap i j))) I.seats)
      where
        -- who holds something in j is in P, where a member of P is below its cap there
        kept : (i₀ : ℕ) → i₀ < I.seats → P i₀ → S i₀ j < I.cap i₀ j → (k : ℕ) → k < I.seats → (d : Dec (P k)) → S k j ≤ keep d (S k j)
        kept i₀ l p r k lk (yes q) = le_refl (S k j)
        kept i₀ l p r k lk (no q) = at (dec_lt 0 (S k j))
          where
            at : Dec (0 < S k j) → S k j ≤ 0
            at (yes b) =
                absurd
                (q
                (closed (record { window = j; giver = k; taker = i₀ })
                (record { in_window = lj; in_giver = lk; in_taker = l; has = b; room = r })
                p))
            at (no b) = omega arith

        go : Dec ((i : ℕ) × (i < I.seats) × (P i × (S i j < I.cap i j))) →
            min (I.supply j) (caps j) ≤ over in? I.seats (λ i. S i j)
        go (yes w) =
            let holders : placed I S j ≤ over in? I.seats (λ i. S i j) =
            sum-le I.seats (λ i. S i j) _ (λ k l. kept w.0 w.1 w.2.0 w.2.1 k l (in? k)) in
            omega (arith, used I S full w.0 j w.1 lj w.2.1)
        go (no q) =
            let at-caps : caps j ≤ over in? I.seats (λ i. S i j) =
            sum-le I.seats _ _ (λ i l. keep-le (in? i) (I.cap i j) (S i j) (λ p. at i l p (dec_lt (S i j) (I.cap i j)))) in
            omega arith
          where
            at : (i : ℕ) → i < I.seats → P i → Dec (S i j < I.cap i j) → I.cap i j ≤ S i j
            at i l p (yes b) = absurd (q (i, l, (p, b)))
            at i l p (no b) = omega arith

    pub capacity-least : group_capacity I in? ≤ over in? I.seats (total I S)
    capacity-least = rw (over-total S) (sum-le I.windows _ _ window-full)

    pub capacity-reached : Feasible I S → over in? I.seats (total I S) ≡ group_capacity I in?
    capacity-reached feasible = le_antisymm (capacity-bounds S feasible) capacity-least

    -- no feasible sheet gives the set more
    pub cut-total : (T : Sheet) → Feasible I T → over in? I.seats (total I T) ≤ over in? I.seats (total I S)
    cut-total T feasible = le_trans (capacity-bounds T feasible) capacity-least

    pub cut : (T : Sheet) → Feasible I T → over in? I.seats (height I T) ≤ over in? I.seats (height I S)
    cut T feasible = omega (arith, cut-total T feasible, split T, split S)
      where
        split : (X : Sheet) → over in? I.seats (height I X) ≡ over in? I.seats I.base + over in? I.seats (total I X)
        split X =
            sum-eq I.seats _ (λ i. keep (in? i) (I.base i) + keep (in? i) (total I X i))
            (λ i l. keep-add (in? i) (I.base i) (total I X i))
            ∙ sum-add I.seats (λ i. keep (in? i) (I.base i)) (λ i. keep (in? i) (total I X i))
