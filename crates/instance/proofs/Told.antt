-- An instance that the numbers in memory tell: what is known of it, and that any two of them are alike. Assumes nothing.
use mathlib.Core.Path.{refl, sym}
use Prim.Native.Nat.{ℕ, ◌≤◌, ◌<◌}
use native.Mathlib.Nat.{le_trans}
use native.Mathlib.Omega.{arith}
use Rattle.fairness.specs.Instance.{Instance, Proper, Feasible}
use Rattle.fairness.specs.Exchange.{Settled}
use Rattle.fairness.specs.Standard.{Standard}
use Rattle.fairness.proofs.Alike.{Alike, alike-back, alike-feasible, alike-settled}
use Rattle.fairness.proofs.Standard.{alike-standard}
use Rattle.model.specs.Book.{Book, Grid, cell, instance_of}
use Rattle.dayfile.specs.Bounds.{Fit}
use Rattle.instance.specs.declared.Terms.{Terms}
use Rattle.instance.specs.Terms.{instance_in, Told, Shows, Ranged, Small}

-- a book that fits has small numbers
pub small-told : (b : Book) (t : Terms) (caps : Grid) → Fit b → Told (instance_of b) t caps → Ranged t → Small t caps
unfolding instance_of
small-told b t caps fit told ranged =
    record {
      ranged = ranged;
      caps_most = λ i j li lj.
          omega (arith, told.caps_are i j li lj, fit.cap_high i j (omega (arith, told.seats_are)) (omega (arith, told.windows_are)));
    }

-- a grid in memory shows itself
pub shows-itself : (t : Terms) (grid : Grid) → Shows t (cell grid) grid
shows-itself t grid i j li lj = refl

module _ (t : Terms) (caps : Grid) where
  -- the numbers tell the instance that they are
  pub told_in : Told (instance_in t caps) t caps
  told_in = record {
    seats_are = refl;
    windows_are = refl;
    caps_are = λ i j li lj. refl;
    supplies_are = λ j lj. refl;
    weights_are = λ i li. refl;
    bases_are = λ i li. refl;
    positions_are = λ i li. refl;
  }

  pub small-proper : Small t caps → Proper (instance_in t caps)
  small-proper h = record {
    weights = λ i li. omega (arith, h.ranged.weights_least i li);
    positions = λ i k li lk e. h.ranged.positions_differ i k li lk e;
  }

  -- a feasible sheet has small cells
  pub feasible-small : Small t caps → (grid : Grid) → Feasible (instance_in t caps) (cell grid)
      → (i j : ℕ) → i < t.seats → j < t.windows → cell grid i j ≤ 4095
  feasible-small h grid f i j li lj = le_trans (f.within i j li lj) (h.caps_most i j li lj)

  module _ (I : Instance) (told : Told I t caps) where
    module _ (S : ℕ → ℕ → ℕ) (grid : Grid) (shows : Shows t S grid) where
      -- to the instance and the grid that are in memory
      pub shown-alike : Alike (instance_in t caps) I (cell grid) S
      shown-alike = record {
        seats = sym told.seats_are;
        windows = sym told.windows_are;
        caps = λ i j li lj. sym (told.caps_are i j li lj);
        supplies = λ j lj. sym (told.supplies_are j lj);
        weights = λ i li. sym (told.weights_are i li);
        bases = λ i li. sym (told.bases_are i li);
        positions = λ i li. sym (told.positions_are i li);
        cells = λ i j li lj. sym (shows i j li lj);
      }

      pub shown-feasible : Feasible I S → Feasible (instance_in t caps) (cell grid)
      shown-feasible = alike-feasible I (instance_in t caps) S (cell grid) (alike-back (instance_in t caps) I (cell grid) S shown-alike)

      -- and from them
      pub shown-settled : Settled (instance_in t caps) (cell grid) → Settled I S
      shown-settled = alike-settled (instance_in t caps) I (cell grid) S shown-alike

      pub shown-standard : Standard (instance_in t caps) (cell grid) → Standard I S
      shown-standard = alike-standard (instance_in t caps) I (cell grid) S shown-alike
