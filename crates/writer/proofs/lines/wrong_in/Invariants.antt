use Prim.Native.Nat.{◌-◌}
use lib.ListN.{get_or}
use Rattle.dayfile.proofs.Search.{Following}
use Rattle.writer.proofs.lines.wrong_in.Given as goal

abbrev pub invariant-loop-i : goal.invariant-loop-i
invariant-loop-i l = Following l.low l.high l.rising (λ k. get_or l.src k 0) l.n l.before l.i

abbrev pub decreases-loop-i : goal.decreases-loop-i
decreases-loop-i l = l.n - l.i
