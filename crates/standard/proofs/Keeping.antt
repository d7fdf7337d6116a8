-- A pass that keeps what is filled filled, and each seat's total, leaves a settled grid settled. Assumes nothing.
use mathlib.Core.Path.{◌≡◌, sym}
use mathlib.Core.List.{List}
use Prim.Native.Nat.{ℕ, ◌<◌}
use native.Mathlib.Omega.{arith}
use lib.ListN.{get_or}
use Rattle.fairness.specs.Sums.{sum}
use Rattle.fairness.specs.Instance.{Feasible, placed}
use Rattle.fairness.specs.Leximin.{table}
use Rattle.fairness.specs.Exchange.{Settled}
use Rattle.fairness.proofs.Sums.{sum-le}
use Rattle.fairness.proofs.Standard.{settled-by-totals}
use Rattle.lists.proofs.Tables.{table_at}
use Rattle.model.specs.Book.{Grid, cell, Shaped}
use Rattle.instance.specs.declared.Terms.{Terms}
use Rattle.instance.specs.Terms.{instance_in, Small}
use Rattle.instance.proofs.Told.{small-proper}
use Rattle.fill.specs.Fills.{Filled, Keeps}

module _ (t : Terms) (caps g : Grid) (small : Small t caps) (shape : Shaped 32 24 g) (s : Settled (instance_in t caps) (cell g)) where
  -- what each window holds
  held : List ℕ
  held = table t.windows (placed (instance_in t caps) (cell g))

  held_at : (j : ℕ) → j < t.windows → get_or held j 0 ≡ sum t.seats (λ i. cell g i j)
  unfolding held
  held_at j l = table_at t.windows (placed (instance_in t caps) (cell g)) j 0 l

  -- with that for the supplies the grid is filled
  filled : Filled t.seats t.windows caps held g
  filled =
      record {
        shape = shape;
        full = λ j l.
            record {
              within = λ i k. s.feasible.within i j k l;
              placed = omega (
                arith,
                held_at j l,
                sum-le t.seats (λ i. cell g i j) (λ i. cell caps i j) (λ i k. s.feasible.within i j k l),
              );
            };
      }

  module _ (r : Grid) (keeps : Keeps t.seats t.windows caps g r) where
    after : Filled t.seats t.windows caps held r
    after = keeps.kept held filled

    feasible : Feasible (instance_in t caps) (cell r)
    feasible =
        record {
          within = λ i j li lj. (after.full j lj).within i li;
          fits = λ j lj. omega (arith, (after.full j lj).placed, held_at j lj, s.feasible.fits j lj);
        }

    pub raised-settled : ((i : ℕ) → i < t.seats → sum t.windows (cell g i) ≡ sum t.windows (cell r i))
        → Settled (instance_in t caps) (cell r)
    raised-settled same =
        settled-by-totals (instance_in t caps) (small-proper t caps small) (cell g) (cell r) s feasible (λ i l. sym (same i l))
