use mathlib.Core.Path.{◌≡◌}
use Prim.Native.Nat.{◌-◌, ◌≤◌}
use lib.ListN.{length}
use Rattle.model.specs.Book.{cell}
use Rattle.reach.specs.Graphs.{Rows}
use Rattle.exchange.proofs.Drawing.{HasRoom, HoldersOf}
use Rattle.exchange.proofs.graph_of.Given as goal

abbrev pub invariant-loop-i : goal.invariant-loop-i
invariant-loop-i l =
    (l.i ≤ l.seats)
    × ((length l.rooms ≡ 32) × Rows l.i (HasRoom (cell l.grid) (cell l.caps) l.windows) l.rooms)
    × ((length l.holders ≡ 24) × HoldersOf (cell l.grid) l.windows l.i l.holders)

abbrev pub decreases-loop-i : goal.decreases-loop-i
decreases-loop-i l = l.seats - l.i
