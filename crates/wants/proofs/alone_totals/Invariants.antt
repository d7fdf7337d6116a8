use mathlib.Core.Path.{◌≡◌}
use Prim.Native.Nat.{min, ◌-◌}
use lib.ListN.{get_or}
use Rattle.lists.proofs.Arrays.{Filled}
use Rattle.fairness.specs.Sums.{sum}
use Rattle.model.specs.Book.{cell}
use Rattle.wants.proofs.alone_totals.Given as goal

abbrev pub invariant-loop-i : goal.invariant-loop-i
invariant-loop-i l =
    Filled (λ k x. x ≡ sum l.windows (λ j. min (get_or l.supplies j 0) (cell l.caps k j))) 0 32 l.seats l.initial.totals l.i l.totals

abbrev pub decreases-loop-i : goal.decreases-loop-i
decreases-loop-i l = l.seats - l.i
