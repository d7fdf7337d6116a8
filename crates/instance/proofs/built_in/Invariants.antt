use mathlib.Core.Path.{◌≡◌}
use Prim.Native.Nat.{◌-◌}
use lib.ListN.{get_or}
use Rattle.lists.proofs.Arrays.{Filled}
use Rattle.fairness.specs.Classes.{class_weights}
use Rattle.instance.proofs.built_in.Given as goal

abbrev pub invariant-loop-i : goal.invariant-loop-i
invariant-loop-i l = Filled (λ k w. w ≡ get_or class_weights k 1) 1 8 8 l.initial.weights l.i l.weights

abbrev pub decreases-loop-i : goal.decreases-loop-i
decreases-loop-i l = 8 - l.i
