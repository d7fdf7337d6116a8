use Prim.Native.Nat.{◌-◌, ◌≤◌}
use Rattle.model.specs.Book.{cell}
use Rattle.instance.specs.Terms.{instance_in}
use Rattle.climb.specs.Cycles.{Climbed}
use Rattle.climb.proofs.raise_row.Given as goal

abbrev pub invariant-loop-window : goal.invariant-loop-window
invariant-loop-window l = (l.window ≤ l.t.windows) × Climbed (instance_in l.t l.caps) (cell l.grid) l.seat l.window

abbrev pub decreases-loop-window : goal.decreases-loop-window
decreases-loop-window l = l.t.windows - l.window
