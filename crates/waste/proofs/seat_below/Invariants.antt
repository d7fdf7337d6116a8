use Prim.Native.Nat.{◌-◌}
use lib.Dec.{ltb}
use Rattle.model.specs.Book.{cell}
use Rattle.dayfile.proofs.Search.{Searching}
use Rattle.waste.proofs.seat_below.Given as goal

abbrev pub invariant-loop-i : goal.invariant-loop-i
invariant-loop-i l = Searching (λ i. ltb (cell l.cells i l.window) (cell l.caps i l.window)) l.seats l.seats l.i

abbrev pub decreases-loop-i : goal.decreases-loop-i
decreases-loop-i l = l.seats - l.i
