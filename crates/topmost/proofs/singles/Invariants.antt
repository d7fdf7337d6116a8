use Prim.Native.Nat.{◌-◌}
use Rattle.lists.proofs.Arrays.{Filled}
use Rattle.masks.specs.Sets.{In}
use Rattle.topmost.proofs.singles.Given as goal

abbrev pub invariant-loop-w : goal.invariant-loop-w
invariant-loop-w l = Filled (λ k set. In k set) 0 24 24 l.initial.sets l.w l.sets

abbrev pub decreases-loop-w : goal.decreases-loop-w
decreases-loop-w l = 24 - l.w
