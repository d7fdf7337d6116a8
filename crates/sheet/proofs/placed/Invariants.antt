use Prim.Native.Nat.{ℕ, ◌*◌, ◌-◌, ◌≤◌, ◌<◌}
use mathlib.Core.Path.{◌≡◌}
use lib.ListN.{get_or}
use Rattle.fairness.specs.Sums.{sum}
use Rattle.model.specs.Book.{cell}
use Rattle.sheet.proofs.placed.Given as goal

abbrev pub invariant-loop-i : goal.invariant-loop-i
invariant-loop-i l =
    (l.i ≤ l.seats)
    × ((j : ℕ) → j < l.windows → (get_or l.sums j 0 ≡ sum l.i (λ k. cell l.grid k j)) × (get_or l.sums j 0 ≤ 65535 * l.i))

abbrev pub decreases-loop-i : goal.decreases-loop-i
decreases-loop-i l = l.seats - l.i
