use Prim.Native.Nat.{◌-◌}
use lib.ListN.{get_or}
use Rattle.model.specs.Book.{cell}
use Rattle.wants.specs.Steps.{trimmed}
use Rattle.wants.proofs.Rows.{Made}
use Rattle.wants.proofs.trim.Given as goal

abbrev pub invariant-loop-i : goal.invariant-loop-i
invariant-loop-i l = Made (λ k j. trimmed (get_or l.wants k 0) (cell l.grid k) j) l.seats l.windows l.initial.sheet l.i l.sheet

abbrev pub decreases-loop-i : goal.decreases-loop-i
decreases-loop-i l = l.seats - l.i
