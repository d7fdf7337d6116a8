use Prim.Native.Nat.{ℕ, ◌-◌, ◌≤◌, ◌<◌}
use lib.ListN.{get_or}
use Rattle.wants.proofs.first_short.Given as goal

abbrev pub invariant-loop-i : goal.invariant-loop-i
invariant-loop-i l = (l.i ≤ l.seats) × ((k : ℕ) → k < l.i → get_or l.wants k 0 ≤ get_or l.totals k 0)

abbrev pub decreases-loop-i : goal.decreases-loop-i
decreases-loop-i l = l.seats - l.i
