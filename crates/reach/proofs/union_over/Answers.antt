-- `reach::union_over` meets its contract. Each turn takes in the set at one member.
use mathlib.Core.Path.{◌≡◌}
use Rattle.reach.proofs.Unions.{first, member, joined, last}
use Rattle.reach.proofs.union_over.Goals as goal

pub loop-i-init : goal.loop-i-init
loop-i-init c = let e : c.into_iter-i-iterator.result.left ≡ c.args.set = cc in rw e (first _ _)

pub bounds-sets-i : goal.bounds-sets-i
bounds-sets-i c = c.requires _ (member _ _ _ _ c.loop-i.invariant _ c.in-Some.ensures.steps.0)

pub loop-i-preserved : goal.loop-i-preserved
loop-i-preserved c =
    let step = c.in-Some.ensures.steps in
    joined _ _ _ _ c.loop-i.invariant _ _ _ step.0 step.1 c.union-all.ensures

pub returns : goal.returns
returns c = last _ _ _ _ c.loop-i.invariant c.in-None.ensures.steps
