-- What callers cite: a sheet with the wanted totals or a group that wants more than it can get, one of the two and never both. Assumes
-- nothing.
use mathlib.Core.Path.{◌≡◌, sym, ap, ◌∙◌}
use mathlib.Core.Logic.{◌⊎◌, inl, inr, ⊎_elim}
use Prim.Native.Nat.{ℕ, ◌<◌}
use native.Mathlib.Decide.{ℕ_discrete}
use native.Mathlib.Omega.{arith}
use Rattle.fairness.specs.Sums.{keep}
use Rattle.fairness.specs.Instance.{Instance, Sheet}
use Rattle.fairness.specs.Wanted.{Grants, Overasked}
use Rattle.fairness.proofs.Sums.{sum-none, sum-eq}
use Rattle.fairness.proofs.Decide.{keep-no}
use Rattle.fairness.proofs.WantedTotals.{granted-or-overasked, wanted-either, same-cells, same-group}
use Rattle.masks.specs.Sets.{bit, In}
use Rattle.masks.proofs.Laws.{bit-zero, collected}
use Rattle.model.specs.Book.{Book, cell, seats, windows, instance_of}
use Rattle.model.proofs.Grids.{grid_of, grid_of-cell, grid_of-shaped}
use Rattle.wants.specs.Wanted.{Fulfillable, Overasks}

-- the empty group wants nothing
pub not_empty : (I : Instance) (wants : ℕ → ℕ) → Overasks I wants 0 → ⊥
not_empty I wants o =
    omega (arith, o.more, sum-none I.seats _ (λ i l. keep-no (ℕ_discrete (bit 0 i) 1) (wants i) (λ e. omega (arith, bit-zero i))))

-- the wants of the seats alone count
module _ (I : Instance) (wants others : ℕ → ℕ) (same : (i : ℕ) → i < I.seats → wants i ≡ others i) where
  pub grants-same : (S : Sheet) → Grants I wants S → Grants I others S
  grants-same S h = record { feasible = h.feasible; exact = λ i l. h.exact i l ∙ same i l }

  pub overasks-same : (g : ℕ) → Overasks I wants g → Overasks I others g
  overasks-same g o =
      let in? : (i : ℕ) → Dec (In i g) = λ i. ℕ_discrete (bit g i) 1 in
      let sums = sum-eq I.seats (λ i. keep (in? i) (wants i)) (λ i. keep (in? i) (others i))
      (λ i l. ap (λ (x : ℕ). keep (in? i) x) (same i l)) in
      record { of_the_book = o.of_the_book; more = omega (arith, o.more, sums) }

module _ (b : Book) (wants : ℕ → ℕ) where
  pub never_both : Fulfillable b wants → (g : ℕ) → Overasks (instance_of b) wants g → ⊥
  never_both (s, h) g o = wanted-either (instance_of b) wants (cell s) h.grants (λ i. In i g) (λ i. ℕ_discrete (bit g i) 1) o.more

  -- the seats of a group as a number
  group_of : Overasked (instance_of b) wants → (g : ℕ) × Overasks (instance_of b) wants g
  group_of o =
      let g = collected (instance_of b).seats o.Group o.in? in (
        g.0,
        record {
          of_the_book = λ i p. ((g.1 i).0 p).0;
          more = same-group (instance_of b) wants o.Group (λ i. In i g.0) o.in? (λ i. ℕ_discrete (bit g.0 i) 1)
              (λ i l. (λ p. (g.1 i).1 (l, p), λ p. ((g.1 i).0 p).1)) o.more;
        },
      )

  -- the used cells of a sheet of functions as a grid
  sheet-of : (S : Sheet) → Grants (instance_of b) wants S → Fulfillable b wants
  unfolding instance_of
  sheet-of S h =
      let t = grid_of (seats b) (windows b) S in
      let same : (i j : ℕ) → i < seats b → j < windows b → S i j ≡ cell t i j =
      λ i j li lj. sym (grid_of-cell (seats b) (windows b) S i j li lj) in
      (t, record { a_sheet = grid_of-shaped (seats b) (windows b) S; grants = same-cells (instance_of b) wants S (cell t) same h })

  pub sheet-or-group : Fulfillable b wants ⊎ ((g : ℕ) × Overasks (instance_of b) wants g)
  sheet-or-group = ⊎_elim (λ s. inl (sheet-of s.0 s.1)) (λ o. inr (group_of o)) (granted-or-overasked (instance_of b) wants)
