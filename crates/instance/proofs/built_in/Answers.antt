-- `instance::built_in` meets its contract. Each turn works out one class's weight.
use mathlib.Core.Path.{◌≡◌, refl, ◌∙◌, ap}
use Prim.Native.Nat.{ℕ, ◌+◌, ◌-◌}
use native.Mathlib.Omega.{arith}
use lib.ListN.{get_or}
use Rattle.lists.proofs.Arrays.{filled-first, filled_next, filled_copy}
use Rattle.fairness.specs.Classes.{class_weights, weight_of}
use Rattle.instance.proofs.built_in.Goals as goal

-- classes count from 1
of-class : {w : ℕ} (i : ℕ) → w ≡ weight_of (i + 1) → w ≡ get_or class_weights i 1
unfolding weight_of
of-class i e = e ∙ ap (λ (k : ℕ). get_or class_weights k 1) {x = i + 1 - 1} {y = i} (omega arith)

pub loop-i-init : goal.loop-i-init
loop-i-init c = filled-first refl (omega arith)

pub overflow_cast-weights : goal.overflow_cast-weights
overflow_cast-weights c = omega (arith, c.weight.ensures.most)

pub loop-i-preserved : goal.loop-i-preserved
loop-i-preserved c =
    filled_next c.loop-i.invariant c.loop-i-test.true (of-class c.loop-i.i c.weight.ensures.exact)

pub returns : goal.returns
returns c = filled_copy c.loop-i.invariant c.loop-i-test.false refl
