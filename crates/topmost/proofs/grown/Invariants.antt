use Prim.Native.Nat.{◌-◌}
use Rattle.lists.proofs.Arrays.{Filled}
use Rattle.masks.specs.Sets.{In}
use Rattle.reach.specs.Graphs.{set_at}
use Rattle.topmost.specs.Sweep.{Widened}
use Rattle.topmost.proofs.grown.Given as goal

abbrev pub invariant-loop-w : goal.invariant-loop-w
invariant-loop-w l =
    Filled (λ k set. Widened (set_at l.sets k) l.holds (λ v. In v l.beyond) set) 0 24 l.windows l.initial.all l.w l.all

abbrev pub decreases-loop-w : goal.decreases-loop-w
decreases-loop-w l = l.windows - l.w
