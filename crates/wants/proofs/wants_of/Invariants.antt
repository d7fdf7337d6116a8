use mathlib.Core.Path.{◌≡◌}
use Prim.Native.Nat.{◌-◌}
use Rattle.lists.proofs.Arrays.{Filled}
use Rattle.wants.specs.Wanted.{want}
use Rattle.wants.proofs.wants_of.Given as goal

abbrev pub invariant-loop-i : goal.invariant-loop-i
invariant-loop-i l = Filled (λ k x. x ≡ want l.row k) 0 32 l.seats l.initial.wants l.i l.wants

abbrev pub decreases-loop-i : goal.decreases-loop-i
decreases-loop-i l = l.seats - l.i
