use Prim.Native.Nat.{ℕ, ◌-◌, ◌≤◌, ◌<◌}
use Rattle.sheet.specs.Sheets.{credit}
use Rattle.lawful.proofs.memory.within_caps.Given as goal

abbrev pub invariant-loop-i : goal.invariant-loop-i
invariant-loop-i l = (l.i ≤ l.seats) × ((k : ℕ) → k < l.i → (j : ℕ) → j < l.windows → credit l.sheet k j ≤ credit l.caps k j)

abbrev pub decreases-loop-i : goal.decreases-loop-i
decreases-loop-i l = l.seats - l.i
