-- The work towards WantedTotals.antt: what a seat reaches is closed; the instance `aimed` has the sheets, the waste and the paths of the
-- instance that it is made from.
use mathlib.Core.Path.{◌≡◌, sym, ◌∙◌}
use mathlib.Core.Logic.{inr, ◌↔◌}
use mathlib.Core.List.{List}
use Prim.Native.Nat.{ℕ, zero, suc, min, ◌-◌, ◌≤◌, ◌<◌}
use native.Mathlib.Omega.{arith}
use Rattle.fairness.specs.Sums.{sum, keep}
use Rattle.fairness.specs.Instance.{Instance, Proper, Sheet, Feasible, Wasteful}
use Rattle.fairness.specs.Exchange.{Move, Possible, Path}
use Rattle.fairness.specs.Layers.{Within}
use Rattle.fairness.specs.Cuts.{Closed}
use Rattle.fairness.specs.Aiming.{aimed}
use Rattle.fairness.proofs.Sums.{sum-zero, sum-suc, sum-eq}
use Rattle.fairness.proofs.Decide.{keep-yes, keep-no}
use Rattle.fairness.proofs.Lists.{All-map}
use Rattle.fairness.proofs.Walks.{edge_of, within-seats, within_more}

-- ---- numbers

-- a row's first terms, as many as w, together
pub row-trim : (w m : ℕ) (f : ℕ → ℕ) → sum m (λ j. min (f j) (w - sum j f)) ≡ min (sum m f) w
row-trim w zero f = sum-zero _ ∙ omega (arith, sum-zero f)
row-trim w (suc m) f = sum-suc m _ ∙ omega (arith, row-trim w m f, sum-suc m f)

-- two decisions that agree keep the same
pub keep_same : {P Q : Type 0} (d : Dec P) (e : Dec Q) (x : ℕ) → P ↔ Q → keep d x ≡ keep e x
keep_same (yes p) e x same = sym (keep-yes e x (same.0 p))
keep_same (no q) e x same = sym (keep-no e x (λ r. q (same.1 r)))

-- ---- used cells

pub cells-feasible : (I : Instance) (S T : Sheet) → ((i j : ℕ) → i < I.seats → j < I.windows → S i j ≡ T i j) →
    Feasible I S → Feasible I T
cells-feasible I S T same f =
    record {
      within = λ i j li lj. omega (arith, same i j li lj, f.within i j li lj);
      fits = λ j lj. omega (arith, sum-eq I.seats (λ i. S i j) (λ i. T i j) (λ i li. same i j li lj), f.fits j lj);
    }

-- ---- what a seat reaches

module _ (I : Instance) (S : Sheet) where
  -- what a seat reaches in so many moves is closed, where that is one less than there are seats, or more
  pub within-closed : (r g : ℕ) → g < I.seats → I.seats ≤ suc r → Closed I S (Within I S r g)
  within-closed r g lg enough m p w =
      let q = within-seats I S (suc r) g m.giver lg (inr (m.taker, p.in_taker, (w, edge_of I S m p))) in
      within_more I S q.0 r g m.giver (omega (arith, q.1)) q.2

-- ---- a settled sheet of the instance `aimed`

module _ (I : Instance) (want : ℕ → ℕ) (M : ℕ) where
  pub aimed-proper : Proper (aimed I want M)
  aimed-proper = record { weights = λ i l. omega arith; positions = λ i k li lk e. e }

  module _ (S : Sheet) where
    -- what it is to be feasible, not wasteful and a path does not depend on weights and bases
    pub aimed-feasible : Feasible (aimed I want M) S → Feasible I S
    aimed-feasible f = record { within = f.within; fits = f.fits }

    pub aimed-full : (Wasteful (aimed I want M) S → ⊥) → Wasteful I S → ⊥
    aimed-full full w =
        full
        (record {
          window = w.window;
          seat = w.seat;
          in_window = w.in_window;
          in_seat = w.in_seat;
          left = w.left;
          room = w.room;
        })

    aimed-possible : (m : Move) → Possible I S m → Possible (aimed I want M) S m
    aimed-possible m p =
        record { in_window = p.in_window; in_giver = p.in_giver; in_taker = p.in_taker; has = p.has; room = p.room }

    pub aimed-path : (g l : ℕ) (ms : List Move) → Path I S g l ms → Path (aimed I want M) S g l ms
    aimed-path g l ms p =
        record {
          linked = p.linked;
          possible = All-map (Possible I S) (Possible (aimed I want M) S) aimed-possible ms p.possible;
          distinct = p.distinct;
        }
