-- Groups that want more than they can get: one seat, and whom a short seat reaches on a settled sheet. Assumes nothing.
use mathlib.Core.Path.{◌≡◌, refl, sym, ap, subst, ◌∙◌}
use mathlib.Core.Logic.{◌↔◌, inl, inr}
use mathlib.Core.List.{List}
use Prim.Native.Nat.{ℕ, zero, suc, min, ◌≤◌, ◌<◌}
use native.Mathlib.Decide.{ℕ_discrete}
use native.Mathlib.Omega.{arith}
use lib.ListN.{get_or}
use Rattle.fairness.specs.Sums.{sum}
use Rattle.fairness.specs.Instance.{Instance, Sheet, Feasible, total}
use Rattle.fairness.specs.Exchange.{Settled}
use Rattle.fairness.specs.Layers.{Within}
use Rattle.fairness.specs.Cuts.{Closed}
use Rattle.fairness.specs.Aiming.{aimed, only, trim}
use Rattle.fairness.specs.Wanted.{Grants}
use Rattle.fairness.proofs.Sums.{sum-eq}
use Rattle.fairness.proofs.Walks.{edge_of}
use Rattle.fairness.proofs.WantedTotals.{aimed-feasible, aimed-full, same-group, only-group, closed-group, reached-most}
use Rattle.fairness.proofs.WantedTotals.{wanted-sheet, same-cells}
use Rattle.masks.specs.Sets.{bit, In, Inserted}
use Rattle.masks.proofs.Laws.{bit-zero, in_pos}
use Rattle.model.specs.Book.{Grid, cell}
use Rattle.sheet.proofs.Sums.{sum_bound}
use Rattle.dayfile.specs.declared.Found.{Found}
use Rattle.dayfile.specs.declared.Found.TheVariants.{At, Nothing}
use Rattle.instance.specs.declared.Terms.{Terms}
use Rattle.instance.specs.Terms.{instance_in, Told, Ranged, Small}
use Rattle.instance.proofs.Told.{shows-itself, shown-alike, shown-feasible}
use Rattle.fairness.proofs.Alike.{alike-feasible}
use Rattle.reach.specs.declared.Graph.{Graph}
use Rattle.reach.specs.Graphs.{Reached}
use Rattle.paths.specs.Steps.{Drawn}
use Rattle.paths.proofs.Bridge.{reach-within, within-reach}
use Rattle.exchange.specs.Graphs.{Shown}
use Rattle.exchange.proofs.Drawing.{drawn, drawn-told}
use Rattle.wants.specs.Wanted.{Overasks}
use Rattle.wants.specs.Steps.{most_total, Short, trimmed}
use Rattle.grant.specs.Steps.{IfGroup, NoneAlone, NoneShort, Reaches, Enough}

-- ---- a group, or none

module _ (some none : Type 0) where
  pub some-group : (g : ℕ) → (g ≡ 0 → ⊥) → some → IfGroup g some none
  some-group zero pos o = absurd (pos refl)
  some-group (suc k) pos o = o

  pub of-group : (g : ℕ) → (g ≡ 0 → ⊥) → IfGroup g some none → some
  of-group zero pos o = absurd (pos refl)
  of-group (suc k) pos o = o

  pub of_none : (g : ℕ) → g ≡ 0 → IfGroup g some none → none
  of_none zero e o = o
  of_none (suc k) e o = absurd (omega arith)

-- ---- one seat

module _ (I : Instance) (wants : ℕ → ℕ) (i g : ℕ) (li : i < I.seats) (ins : Inserted 0 i g) where
  is-seat : (k : ℕ) → In k g → k ≡ i
  is-seat k p = elim (ℕ_discrete k i) [ yes e ↦ e | no d ↦ absurd (omega (arith, ins.others k d, bit-zero k)) ]

  pub alone-group : sum I.windows (λ j. min (I.supply j) (I.cap i j)) < wants i → Overasks I wants g
  alone-group more =
      record {
        of_the_book = λ k p. rw (is-seat k p) li;
        more = same-group I wants (λ k. k ≡ i) (λ k. In k g) (only i) (λ k. ℕ_discrete (bit g k) 1)
            (λ k lk. (λ e. rw e ins.here, is-seat k)) (only-group I wants i li more);
      }

-- ---- whom a short seat reaches

-- a seat that is reached is one of the book's
within-seat : (I : Instance) (S : Sheet) (r g l : ℕ) → g < I.seats → Within I S r g l → l < I.seats
within-seat I S zero g l lg e = rw (← e) lg
within-seat I S (suc r) g l lg (inl p) = within-seat I S r g l lg p
within-seat I S (suc r) g l lg (inr (k, h, (p, e))) = e.possible.in_giver

module _ (I : Instance) (wants : ℕ → ℕ) (S : Sheet) (small : (i : ℕ) → i < I.seats → wants i ≤ most_total)
    (settled : Settled (aimed I wants most_total) S) where
  feasible : Feasible I S
  feasible = aimed-feasible I wants most_total S settled.feasible

  pub reached-group : (g : ℕ) → Reaches I S wants g → Overasks I wants g
  reached-group g h =
      record {
        of_the_book = λ l p. let w = (h.reached l).0 p in within-seat I S w.0 h.seat l h.in_seats w.1;
        more = closed-group I wants S feasible (aimed-full I wants most_total S settled.full) (λ l. In l g)
            (λ l. ℕ_discrete (bit g l) 1) closed most h.seat h.in_seats ((h.reached h.seat).1 (0, refl)) h.short;
      }
    where
      closed : Closed I S (λ l. In l g)
      closed m p q =
          let w = (h.reached m.taker).0 q in
          (h.reached m.giver).1 (suc w.0, inr (m.taker, p.in_taker, (w.1, edge_of I S m p)))

      most : (l : ℕ) → l < I.seats → In l g → total I S l ≤ wants l
      most l ll p =
          let w = (h.reached l).0 p in
          reached-most I wants most_total S small settled h.seat h.in_seats h.short w.0 l ll w.1

-- nobody is short: a sheet cut to the wants
pub cut-grants : (I : Instance) (wants : ℕ → ℕ) (S T : Sheet) → Enough I S wants →
    ((i j : ℕ) → i < I.seats → j < I.windows → trimmed (wants i) (S i) j ≡ T i j) → Grants I wants T
unfolding trim
cut-grants I wants S T e same = same-cells I wants (trim wants S) T same (wanted-sheet I wants S e.feasible e.none_short)

-- ---- numbers in memory

-- what the look for a short seat tells
module _ (n : ℕ) (totals wants : List ℕ) (r : Found) (h : Short n totals wants r) where
  pub short-at : (i : ℕ) → r ≡ At i → (i < n) × (get_or totals i 0 < get_or wants i 0)
  short-at i e = subst (Short n totals wants) e h

  pub none_short : r ≡ Nothing → (i : ℕ) → i < n → get_or wants i 0 ≤ get_or totals i 0
  none_short e = subst (Short n totals wants) e h

module _ (t : Terms) (caps : Grid) (I : Instance) (told : Told I t caps) (wants : List ℕ) where
  module _ (totals : List ℕ)
      (are : (i : ℕ) → i < t.seats → get_or totals i 0 ≡ sum t.windows (λ j. min (get_or t.supplies j 0) (cell caps i j))) where
    -- what a seat can get alone
    alone-same : (i : ℕ) → i < t.seats → get_or totals i 0 ≡ sum I.windows (λ j. min (I.supply j) (I.cap i j))
    alone-same i li =
        are i li
        ∙ rw told.windows_are
        (sum-eq t.windows _ _ (λ j lj. omega (arith, told.supplies_are j lj, told.caps_are i j li lj)))

    pub alone-found : (i g : ℕ) → (i < t.seats) × (get_or totals i 0 < get_or wants i 0) → Inserted 0 i g →
        IfGroup g (Overasks I (λ k. get_or wants k 0) g) (NoneAlone I (λ k. get_or wants k 0))
    alone-found i g h ins =
        some-group _ _ g (λ e. omega (arith, in_pos g i ins.here))
        (alone-group I (λ k. get_or wants k 0) i g (omega (arith, told.seats_are, h.0)) ins (omega (arith, alone-same i h.0, h.1)))

    pub alone-none : ((i : ℕ) → i < t.seats → get_or wants i 0 ≤ get_or totals i 0) → NoneAlone I (λ k. get_or wants k 0)
    alone-none h i li =
        let seat : i < t.seats = omega (arith, told.seats_are) in omega (arith, alone-same i seat, h i seat)

  -- who wants no more wants no more than the most
  pub alone-small : Small t caps → NoneAlone I (λ k. get_or wants k 0) → (i : ℕ) → i < I.seats → get_or wants i 0 ≤ most_total
  alone-small small none i li =
      let seat : i < t.seats = omega (arith, told.seats_are) in
      let bound = sum_bound 4095 I.windows (λ j. min (I.supply j) (I.cap i j))
      (λ j lj. cap-small j (omega (arith, told.windows_are)) seat) in
      omega (arith, bound, none i li, told.windows_are, small.ranged.windows_most)
    where
      cap-small : (j : ℕ) → j < t.windows → i < t.seats → min (I.supply j) (I.cap i j) ≤ 4095
      cap-small j lj seat = omega (arith, told.caps_are i j seat lj, small.caps_most i j seat lj)

  module _ (grid : Grid) (totals : List ℕ) (are : (i : ℕ) → i < t.seats → get_or totals i 0 ≡ sum t.windows (λ j. cell grid i j)) where
    total-same : (i : ℕ) → i < t.seats → get_or totals i 0 ≡ total I (cell grid) i
    total-same i li = are i li ∙ ap (λ (m : ℕ). sum m (λ j. cell grid i j)) (sym told.windows_are)

    -- whom a short seat reaches in the graph of the grid
    pub reached-found : (graph : Graph) → Shown (instance_in t caps) (cell grid) graph → (i g : ℕ) →
        (i < t.seats) × (get_or totals i 0 < get_or wants i 0) → ((l : ℕ) → In l g ↔ Reached graph i l) →
        IfGroup g (Reaches I (cell grid) (λ k. get_or wants k 0) g) (NoneShort I (cell grid) (λ k. get_or wants k 0))
    reached-found graph shown i g h reaches =
        some-group _ _ g (λ e. omega (arith, in_pos g i ((reaches i).1 (0, refl))))
        (record {
          seat = i;
          in_seats = omega (arith, told.seats_are, h.0);
          short = omega (arith, total-same i h.0, h.1);
          reached = λ l. (
            λ p. let r = (reaches l).0 p in (r.0, reach-within I (cell grid) graph draws r.0 i l r.1),
            λ w. (reaches l).1 (w.0, within-reach I (cell grid) graph draws w.0 i l w.1),
          );
        })
      where
        draws : Drawn I (cell grid) graph
        draws = drawn-told t caps grid I (cell grid) told (shows-itself t grid) graph (drawn (instance_in t caps) (cell grid) graph shown)

    pub reached-none : ((i : ℕ) → i < t.seats → get_or wants i 0 ≤ get_or totals i 0) → NoneShort I (cell grid) (λ k. get_or wants k 0)
    reached-none h i li = let seat : i < t.seats = omega (arith, told.seats_are) in omega (arith, total-same i seat, h i seat)

-- ---- terms that aim at wants

module _ (t u : Terms) (caps : Grid) (wants : ℕ → ℕ) (told : Told (aimed (instance_in t caps) wants most_total) u caps) where
  -- they are as small
  pub small-aimed : Small t caps → Ranged u → Small u caps
  small-aimed small ranged =
      record {
        ranged = ranged;
        caps_most = λ i j li lj. small.caps_most i j (omega (arith, told.seats_are)) (omega (arith, told.windows_are));
      }

  -- and have the same sheets
  pub feasible-aimed : (grid : Grid) → Feasible (instance_in t caps) (cell grid) → Feasible (instance_in u caps) (cell grid)
  feasible-aimed grid f =
      shown-feasible u caps (aimed (instance_in t caps) wants most_total) told (cell grid) grid (shows-itself u grid)
      (record { within = f.within; fits = f.fits })

-- ---- the reply

module _ (t : Terms) (caps : Grid) (I : Instance) (told : Told I t caps) (wants : List ℕ) where
  abbrev w : ℕ → ℕ
  w k = get_or wants k 0

  -- a sheet that leaves nobody short
  pub served-enough : (grid : Grid) → Feasible (instance_in t caps) (cell grid) → NoneShort I (cell grid) w → Enough I (cell grid) w
  served-enough grid f none =
      record {
        feasible = alike-feasible (instance_in t caps) I (cell grid) (cell grid)
            (shown-alike t caps I told (cell grid) grid (shows-itself t grid)) f;
        none_short = none;
      }

  -- a settled sheet
  module _ (small : (i : ℕ) → i < t.seats → w i ≤ most_total) (S : Sheet) (settled : Settled (aimed I w most_total) S) (g : ℕ)
      (left : IfGroup g (Reaches I S w g) (NoneShort I S w)) where
    pub settled-enough : IfGroup g (Overasks I w g) (Enough I S w)
    settled-enough = go g left
      where
        few : (i : ℕ) → i < I.seats → w i ≤ most_total
        few i li = small i (omega (arith, told.seats_are))

        go : (g : ℕ) → IfGroup g (Reaches I S w g) (NoneShort I S w) → IfGroup g (Overasks I w g) (Enough I S w)
        go zero none = record { feasible = aimed-feasible I w most_total S settled.feasible; none_short = none }
        go (suc k) reaches = reached-group I w S few settled (suc k) reaches

  pub granted-sheet : (S T : Sheet) → Enough I S w → ((i j : ℕ) → i < t.seats → j < t.windows → T i j ≡ trimmed (w i) (S i) j) →
      Grants I w T
  granted-sheet S T e same =
      cut-grants I w S T e (λ i j li lj. sym (same i j (omega (arith, told.seats_are)) (omega (arith, told.windows_are))))
