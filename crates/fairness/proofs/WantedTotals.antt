-- Wanted totals: a sheet that gives every seat just what it wants, or a group of seats that wants more than it can get; one of the two,
-- never both. A settled sheet of the instance `aimed` shows which. Stated with the definitions of specs/ alone, for others to cite.
use mathlib.Core.Path.{◌≡◌, refl, sym, ap, ◌∙◌}
use mathlib.Core.Logic.{◌⊎◌, inl, inr, ⊎_elim, ◌↔◌}
use Prim.Native.Nat.{ℕ, zero, suc, min, ◌*◌, ◌≤◌, ◌<◌}
use native.Mathlib.Nat.{le_refl, le_trans, suc-mul, zero-mul}
use native.Mathlib.Decide.{dec_lt}
use native.Mathlib.Omega.{arith}
use Rattle.fairness.specs.Sums.{sum, keep, over}
use Rattle.fairness.specs.Instance.{Instance, Sheet, Feasible, Wasteful, total, group_capacity}
use Rattle.fairness.specs.Exchange.{Settled}
use Rattle.fairness.specs.Layers.{Within}
use Rattle.fairness.specs.Cuts.{Closed}
use Rattle.fairness.specs.Wanted.{Grants, WantsMore, Overasked}
use Rattle.fairness.specs.Aiming.{only, aimed, trim}
use Rattle.fairness.proofs.Sums.{sum-zero, sum-suc, sum-le, sum-eq, sum_lt, sum-term, sum_one}
use Rattle.fairness.proofs.Decide.{keep-le, keep-yes, keep-no, below?}
use Rattle.fairness.proofs.Walks.{within-self}
use Rattle.fairness.proofs.Even.{even-path}
use Rattle.fairness.proofs.Aimed.{row-trim, cells-feasible, keep_same, aimed-path}
use Rattle.fairness.proofs.Theorems.{group-capacity-bounds, group-capacity-reached, within?, within-path, settled-exists}
pub use Rattle.fairness.proofs.Aimed.{within-closed, aimed-proper, aimed-feasible, aimed-full}

-- ---- a sheet with more than is wanted, trimmed

module _ (I : Instance) (want : ℕ → ℕ) (S : Sheet) where
  -- no cell is raised
  pub trim-cell : (i j : ℕ) → trim want S i j ≤ S i j
  unfolding trim
  trim-cell i j = omega arith

  -- a seat has the lesser of what it had and what it wants
  pub trim-total : (i : ℕ) → total I (trim want S) i ≡ min (total I S i) (want i)
  unfolding trim
  trim-total i = row-trim (want i) I.windows (S i)

  pub trim-feasible : Feasible I S → Feasible I (trim want S)
  trim-feasible f =
      record {
        within = λ i j li lj. le_trans (trim-cell i j) (f.within i j li lj);
        fits = λ j lj. le_trans (sum-le I.seats _ _ (λ i l. trim-cell i j)) (f.fits j lj);
      }

  -- where every seat has what it wants or more, the trimmed sheet has just that
  pub wanted-sheet : Feasible I S → ((i : ℕ) → i < I.seats → want i ≤ total I S i) → Grants I want (trim want S)
  wanted-sheet f enough =
      record { feasible = trim-feasible f; exact = λ i l. omega (arith, trim-total i, enough i l) }

  -- so has every sheet with the same used cells
  pub same-cells : (T : Sheet) → ((i j : ℕ) → i < I.seats → j < I.windows → S i j ≡ T i j) → Grants I want S → Grants I want T
  same-cells T same grants =
      record {
        feasible = cells-feasible I S T same grants.feasible;
        exact = λ i l. sum-eq I.windows (T i) (S i) (λ j lj. sym (same i j l lj)) ∙ grants.exact i l;
      }

-- ---- groups

module _ (I : Instance) (want : ℕ → ℕ) where
  -- the members alone matter
  pub same-group : (P Q : ℕ → Type 0) (in? : (i : ℕ) → Dec (P i)) (on? : (i : ℕ) → Dec (Q i)) →
      ((i : ℕ) → i < I.seats → P i ↔ Q i) → WantsMore I want in? → WantsMore I want on?
  same-group P Q in? on? same more =
      let capacities : group_capacity I in? ≡ group_capacity I on? =
      sum-eq I.windows _ _ (λ j l. ap (min (I.supply j)) (same_over (λ k. I.cap k j))) in
      omega (arith, same_over want)
    where
      same_over : (f : ℕ → ℕ) → over in? I.seats f ≡ over on? I.seats f
      same_over f = sum-eq I.seats _ _ (λ i l. keep_same (in? i) (on? i) (f i) (same i l))

  -- a sheet that gives the wanted totals rules out every group
  pub wanted-either : (T : Sheet) → Grants I want T → (P : ℕ → Type 0) (in? : (i : ℕ) → Dec (P i)) → WantsMore I want in? → ⊥
  wanted-either T grants P in? more =
      omega (
        arith,
        group-capacity-bounds I P in? T grants.feasible,
        sum-eq I.seats (λ i. keep (in? i) (total I T i)) (λ i. keep (in? i) (want i))
            (λ i l. ap (λ (x : ℕ). keep (in? i) x) (grants.exact i l)),
      )

  -- a closed group in which nobody has more than it wants and somebody has less
  pub closed-group : (S : Sheet) → Feasible I S → (Wasteful I S → ⊥) → (P : ℕ → Type 0) (in? : (i : ℕ) → Dec (P i)) → Closed I S P →
      ((l : ℕ) → l < I.seats → P l → total I S l ≤ want l) →
      (g : ℕ) → g < I.seats → P g → total I S g < want g → WantsMore I want in?
  closed-group S feasible full P in? closed most g lg p short =
      omega (
        arith,
        group-capacity-reached I P in? S feasible full closed,
        sum_lt I.seats (λ i. keep (in? i) (total I S i)) (λ i. keep (in? i) (want i)) g
            (λ i l. keep-le (in? i) (total I S i) (want i) (λ q. most i l q))
            lg (rw (keep-yes (in? g) (total I S g) p, keep-yes (in? g) (want g) p) short),
      )

  -- ---- one seat

  module _ (i : ℕ) (li : i < I.seats) where
    over-only : (f : ℕ → ℕ) → over (only i) I.seats f ≡ f i
    over-only f =
        sum_one I.seats (λ k. keep (only i k) (f k)) i li (λ k l q. keep-no (only i k) (f k) q) ∙ keep-yes (only i i) (f i) refl

    -- what a seat can get: over the windows, the lesser of supply and its cap
    pub only-capacity : group_capacity I (only i) ≡ sum I.windows (λ j. min (I.supply j) (I.cap i j))
    only-capacity = sum-eq I.windows _ _ (λ j l. ap (min (I.supply j)) (over-only (λ k. I.cap k j)))

    -- a seat that wants more is a group
    pub only-group : sum I.windows (λ j. min (I.supply j) (I.cap i j)) < want i → WantsMore I want (only i)
    only-group more = omega (arith, only-capacity, over-only want)

    -- so is one that wants more than the windows' number times the most that its caps are
    pub only-most : (b : ℕ) → ((j : ℕ) → j < I.windows → I.cap i j ≤ b) → I.windows * b < want i → WantsMore I want (only i)
    only-most b most more = only-group (omega (arith, bounded I.windows (λ j l. most j l)))
      where
        bounded : (m : ℕ) → ((j : ℕ) → j < m → I.cap i j ≤ b) → sum m (λ j. min (I.supply j) (I.cap i j)) ≤ m * b
        bounded zero h = omega (arith, sum-zero (λ j. min (I.supply j) (I.cap i j)), zero-mul b)
        bounded (suc m) h =
            rw (suc-mul, sum-suc) (omega (arith, bounded m (λ j l. h j (omega arith)), h m (le_refl (suc m))))

-- ---- a settled sheet of the instance `aimed`

module _ (I : Instance) (want : ℕ → ℕ) (M : ℕ) (S : Sheet)
    (small : (i : ℕ) → i < I.seats → want i ≤ M) (settled : Settled (aimed I want M) S)
  where
    -- whom a seat that has less than it wants reaches has no more than it wants
    pub reached-most : (g : ℕ) → g < I.seats → total I S g < want g →
        (r l : ℕ) → l < I.seats → Within I S r g l → total I S l ≤ want l
    reached-most g lg short r l ll w = go (dec_lt (want l) (total I S l))
      where
        go : Dec (want l < total I S l) → total I S l ≤ want l
        go (no b) = omega arith
        go (yes b) =
            let p = within-path I S r g l w in
            absurd
            (even-path (aimed I want M) S settled.fair g l p.0 lg ll (aimed-path I want M S g l p.0 p.1) (omega arith) refl M
            (omega (arith, small g lg)) (omega (arith, small l ll)))

    -- so whom it reaches is a group that wants more than it can get
    pub wanted-group : (g : ℕ) → g < I.seats → total I S g < want g → (r : ℕ) → I.seats ≤ suc r →
        (P : ℕ → Type 0) (in? : (i : ℕ) → Dec (P i)) → ((l : ℕ) → l < I.seats → P l ↔ Within I S r g l) → WantsMore I want in?
    wanted-group g lg short r enough P in? reached =
        closed-group I want S (aimed-feasible I want M S settled.feasible) (aimed-full I want M S settled.full) P in? closed
        (λ l ll p. reached-most g lg short r l ll ((reached l ll).0 p)) g lg ((reached g lg).1 (within-self I S r g)) short
      where
        closed : Closed I S P
        closed m p q =
            (reached m.giver p.in_giver).1
            (within-closed I S r g lg enough m p ((reached m.taker p.in_taker).0 q))

    -- the reply: the trimmed sheet, or whom a seat that has less than it wants reaches
    pub wanted-reply : Grants I want (trim want S) ⊎ Overasked I want
    wanted-reply = go (below? (λ g. total I S g < want g) (λ g. dec_lt (total I S g) (want g)) I.seats)
      where
        go : Dec ((g : ℕ) × (g < I.seats) × (total I S g < want g)) → Grants I want (trim want S) ⊎ Overasked I want
        go (yes w) =
            let g : ℕ = w.0 in
            let in? : (l : ℕ) → Dec (Within I S I.seats g l) = within? I S I.seats g in
            inr
            (record {
              Group = Within I S I.seats g;
              in? = in?;
              more = wanted-group g w.1 w.2 I.seats (omega arith) _ in? (λ l ll. (λ p. p, λ p. p));
            })
        go (no q) = inl (wanted-sheet I want S (aimed-feasible I want M S settled.feasible) (λ i l. enough i l (dec_lt _ _)))
          where
            enough : (i : ℕ) → i < I.seats → Dec (total I S i < want i) → want i ≤ total I S i
            enough i l (yes b) = absurd (q (i, l, b))
            enough i l (no b) = omega arith

-- ---- one of the two replies, and never both

module _ (I : Instance) (want : ℕ → ℕ) where
  pub granted-or-overasked : ((S : Sheet) × Grants I want S) ⊎ Overasked I want
  granted-or-overasked =
      let M : ℕ = sum I.seats want in
      let s = settled-exists (aimed I want M) (aimed-proper I want M) in
      ⊎_elim (λ grants. inl (trim want s.0, grants)) inr (wanted-reply I want M s.0 (λ i l. sum-term I.seats want i l) s.1)

  -- there is a sheet with the wanted totals exactly when no group wants more than it can get
  pub granted-iff : ((S : Sheet) × Grants I want S) ↔ (Overasked I want → ⊥)
  granted-iff = (
    λ s o. wanted-either I want s.0 s.1 o.Group o.in? o.more,
    λ none. ⊎_elim (λ s. s) (λ o. absurd (none o)) granted-or-overasked,
  )
