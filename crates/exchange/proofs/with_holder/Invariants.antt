use mathlib.Core.Path.{◌≡◌}
use Prim.Native.Nat.{◌-◌, ◌≤◌}
use lib.ListN.{length}
use Rattle.exchange.proofs.Drawing.{Added}
use Rattle.exchange.proofs.with_holder.Given as goal

abbrev pub invariant-loop-w : goal.invariant-loop-w
invariant-loop-w l = (l.w ≤ l.windows) × ((length l.all ≡ 24) × Added l.initial.all l.cells l.seat l.w l.all)

abbrev pub decreases-loop-w : goal.decreases-loop-w
decreases-loop-w l = l.windows - l.w
