use mathlib.Core.Path.{◌≡◌}
use Prim.Native.Nat.{◌≤◌}
use Rattle.model.specs.Book.{cell}
use Rattle.instance.specs.declared.Terms.{Terms}
use Rattle.instance.specs.Terms.{instance_in}
use Rattle.topmost.proofs.Sweep.{Swept}
use Rattle.topmost.proofs.all_blocked.Given as goal

abbrev pub invariant-loop-i : goal.invariant-loop-i
invariant-loop-i l =
    (l.i ≤ l.initial.i) × ((t : Terms) → t.seats ≡ l.initial.i → t.windows ≡ l.windows →
    Swept (instance_in t l.caps) (cell l.grid) l.i l.sets)

abbrev pub decreases-loop-i : goal.decreases-loop-i
decreases-loop-i l = l.i
