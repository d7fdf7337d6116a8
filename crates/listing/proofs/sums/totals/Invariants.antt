use Prim.Native.Nat.{ℕ, ◌-◌}
use mathlib.Core.Path.{◌≡◌}
use lib.ListN.{replicate}
use Rattle.lists.proofs.Arrays.{Filled}
use Rattle.fairness.specs.Sums.{sum}
use Rattle.sheet.specs.Sheets.{credit}
use Rattle.listing.proofs.sums.totals.Given as goal

abbrev pub invariant-loop-i : goal.invariant-loop-i
invariant-loop-i l =
    Filled (λ k (x : ℕ). x ≡ sum l.windows (λ j. credit l.sheet k j)) 0 32 l.seats (replicate 32 0) l.i l.totals

abbrev pub decreases-loop-i : goal.decreases-loop-i
decreases-loop-i l = l.seats - l.i
