use Prim.Native.Nat.{◌-◌}
use Rattle.dayfile.proofs.Search.{Walking}
use Rattle.values.proofs.wrong_field.Given as goal

abbrev pub invariant-loop-p : goal.invariant-loop-p
invariant-loop-p l = Walking l.file l.low l.high l.rising l.at l.n l.end l.before l.p

abbrev pub decreases-loop-p : goal.decreases-loop-p
decreases-loop-p l = l.end - l.p
