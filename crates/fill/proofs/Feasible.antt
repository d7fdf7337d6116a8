-- Feasible grids window by window; a filled grid is feasible and not wasteful in every instance that the numbers tell.
use mathlib.Core.Path.{◌≡◌, ap, ◌∙◌}
use Prim.Native.Nat.{ℕ, min, ◌<◌}
use native.Mathlib.Omega.{arith}
use lib.ListN.{get_or}
use Rattle.fairness.specs.Sums.{sum}
use Rattle.fairness.specs.Instance.{Instance, Feasible, Wasteful, placed}
use Rattle.fairness.proofs.Sums.{sum_lt}
use Rattle.model.specs.Book.{Grid, cell}
use Rattle.instance.specs.declared.Terms.{Terms}
use Rattle.instance.specs.Terms.{instance_in, Told}
use Rattle.fill.specs.Fills.{Full, FeasibleAt, Filled}

-- a feasible grid is so in each window
pub feasible-at : (t : Terms) (caps g : Grid) → Feasible (instance_in t caps) (cell g) →
    (j : ℕ) → j < t.windows → FeasibleAt t.seats j caps (get_or t.supplies j 0) g
feasible-at t caps g f j l = record { within = λ i k. f.within i j k l; fits = f.fits j l }

module _
    (t : Terms) (caps g : Grid) (f : Filled t.seats t.windows caps t.supplies g) (I : Instance) (told : Told I t caps)
  where
    -- a window's cells together, in the instance's words
    together : (j : ℕ) → j < t.windows → placed I (cell g) j ≡ min (get_or t.supplies j 0) (sum t.seats (λ i. cell caps i j))
    together j l = ap (λ (k : ℕ). sum k (λ i. cell g i j)) told.seats_are ∙ (f.full j l).placed

    feasible : Feasible I (cell g)
    feasible = record {
      within = λ i j a b.
          let p : i < t.seats = omega (arith, told.seats_are) in
          let q : j < t.windows = omega (arith, told.windows_are) in
          omega (arith, (f.full j q).within i p, told.caps_are i j p q);
      fits = λ j b.
          let q : j < t.windows = omega (arith, told.windows_are) in
          omega (arith, together j q, told.supplies_are j q);
    }

    -- a seat below its cap has the window's cells together below its caps together, so the supply is handed out
    unwasted : Wasteful I (cell g) → ⊥
    unwasted w =
        let i = w.seat in
        let j = w.window in
        let p : i < t.seats = omega (arith, told.seats_are, w.in_seat) in
        let q : j < t.windows = omega (arith, told.windows_are, w.in_window) in
        let below : cell g i j < cell caps i j = omega (arith, w.room, told.caps_are i j p q) in
        let less = sum_lt t.seats (λ k. cell g k j) (λ k. cell caps k j) i (f.full j q).within p below in
        omega (arith, (f.full j q).placed, together j q, told.supplies_are j q, w.left, less)

    pub is-full : Full I (cell g)
    is-full = record { feasible = feasible; unwasted = unwasted }
