use mathlib.Core.Path.{◌≡◌}
use Prim.Native.Nat.{ℕ, ◌-◌, ◌≤◌, ◌<◌}
use Rattle.fairness.specs.Sums.{sum}
use Rattle.model.specs.Book.{cell}
use Rattle.standard.proofs.same_totals.Given as goal

abbrev pub invariant-loop-i : goal.invariant-loop-i
invariant-loop-i l = (l.i ≤ l.i-end) × ((k : ℕ) → k < l.i → sum l.windows (cell l.a k) ≡ sum l.windows (cell l.b k))

abbrev pub decreases-loop-i : goal.decreases-loop-i
decreases-loop-i l = l.i-end - l.i
