use mathlib.Core.Path.{◌≡◌}
use Prim.Native.Nat.{min, ◌-◌}
use lib.ListN.{get_or}
use Rattle.lists.proofs.Arrays.{Filled}
use Rattle.forecast.proofs.to_place.Given as goal

abbrev pub invariant-loop-w : goal.invariant-loop-w
invariant-loop-w l =
    Filled (λ k x. x ≡ min (get_or l.supplies k 0) (get_or l.sums k 0)) 0 24 l.windows l.initial.credits l.w l.credits

abbrev pub decreases-loop-w : goal.decreases-loop-w
decreases-loop-w l = l.windows - l.w
