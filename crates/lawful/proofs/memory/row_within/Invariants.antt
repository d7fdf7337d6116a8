use mathlib.Core.Path.{◌≡◌}
use Prim.Native.Nat.{ℕ, ◌-◌, ◌≤◌, ◌<◌}
use lib.ListN.{get_or}
use Rattle.lawful.proofs.memory.row_within.Given as goal

abbrev pub invariant-loop-w : goal.invariant-loop-w
invariant-loop-w l =
    (l.w ≤ l.windows) × (l.above ≤ l.w) × (l.above ≡ 0 → (j : ℕ) → j < l.w → get_or l.row j 0 ≤ get_or l.caps j 0)

abbrev pub decreases-loop-w : goal.decreases-loop-w
decreases-loop-w l = l.windows - l.w
