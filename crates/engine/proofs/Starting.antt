-- Grids that the engine starts from.
use mathlib.Core.Path.{◌≡◌, refl}
use Prim.Native.Nat.{ℕ, zero, suc}
use native.Mathlib.Omega.{arith}
use lib.ListN.{replicate}
use Rattle.fairness.specs.Instance.{Feasible}
use Rattle.fairness.proofs.Sums.{sum-none}
use Rattle.lists.proofs.Arrays.{zeros-at}
use Rattle.model.specs.Book.{Grid, cell}
use Rattle.instance.specs.declared.Terms.{Terms}
use Rattle.instance.specs.Terms.{instance_in}
use Rattle.instance.proofs.Told.{told_in}
use Rattle.fill.specs.Fills.{Full, Filled}
use Rattle.fill.proofs.Feasible.{is-full}

-- a grid of zeros
zero-cell : (n m i j : ℕ) → cell (replicate n (replicate m 0)) i j ≡ 0
zero-cell zero m i j = refl
zero-cell (suc n) m zero j = zeros-at m j
zero-cell (suc n) m (suc i) j = zero-cell n m i j

module _ (t : Terms) (caps : Grid) where
  pub zeros-feasible : (n m : ℕ) → Feasible (instance_in t caps) (cell (replicate n (replicate m 0)))
  zeros-feasible n m = record {
    within = λ i j li lj. omega (arith, zero-cell n m i j);
    fits = λ j lj. omega (arith, sum-none t.seats (λ i. cell (replicate n (replicate m 0)) i j) (λ i li. zero-cell n m i j));
  }

  -- a filled grid is feasible and not wasteful
  pub grid-full : (g : Grid) → Filled t.seats t.windows caps t.supplies g → Full (instance_in t caps) (cell g)
  grid-full g f = is-full t caps g f (instance_in t caps) (told_in t caps)
