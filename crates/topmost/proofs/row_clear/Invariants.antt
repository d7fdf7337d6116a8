use Prim.Native.Nat.{◌-◌, ◌≤◌}
use Rattle.topmost.specs.Sweep.{Clear}
use Rattle.topmost.proofs.row_clear.Given as goal

abbrev pub invariant-loop-j : goal.invariant-loop-j
invariant-loop-j l = (l.j ≤ l.windows) × Clear l.j l.sets l.rooms l.holds

abbrev pub decreases-loop-j : goal.decreases-loop-j
decreases-loop-j l = l.windows - l.j
