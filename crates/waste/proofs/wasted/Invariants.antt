use Prim.Native.Nat.{◌-◌}
use Rattle.dayfile.proofs.Search.{Searching}
use Rattle.waste.proofs.Wasting.{wastes}
use Rattle.waste.proofs.wasted.Given as goal

abbrev pub invariant-loop-window : goal.invariant-loop-window
invariant-loop-window l =
    Searching (wastes l.cells l.caps l.placed l.supplies l.seats) l.windows l.windows l.window

abbrev pub decreases-loop-window : goal.decreases-loop-window
decreases-loop-window l = l.windows - l.window
