use Prim.Native.Nat.{◌-◌}
use Rattle.dayfile.proofs.Search.{Searching}
use Rattle.idle.proofs.Lines.{zero}
use Rattle.idle.proofs.idle_seat.Given as goal

abbrev pub invariant-loop-i : goal.invariant-loop-i
invariant-loop-i l = Searching (zero l.caps l.windows) l.seats l.seats l.i

abbrev pub decreases-loop-i : goal.decreases-loop-i
decreases-loop-i l = l.seats - l.i
