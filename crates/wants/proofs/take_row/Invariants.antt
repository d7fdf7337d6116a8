use mathlib.Core.Path.{◌≡◌}
use Prim.Native.Nat.{min, ◌-◌}
use lib.ListN.{get_or}
use Rattle.lists.proofs.Arrays.{Filled}
use Rattle.fairness.specs.Sums.{sum}
use Rattle.wants.specs.Steps.{trimmed}
use Rattle.wants.proofs.take_row.Given as goal

abbrev pub invariant-loop-w : goal.invariant-loop-w
invariant-loop-w l =
    Filled (λ k x. x ≡ trimmed l.want (λ j. min (get_or l.left j 0) (get_or l.most j 0)) k) 0 24 l.windows l.initial.cells l.w l.cells
    × (l.missing ≡ l.want - sum l.w (λ j. min (get_or l.left j 0) (get_or l.most j 0)))

abbrev pub decreases-loop-w : goal.decreases-loop-w
decreases-loop-w l = l.windows - l.w
