-- `reach::Graph::reached` meets its contract.
use borrow.Author.Rules.{rules}
use Prim.Native.Nat.{◌+◌}
use Rattle.reach.proofs.Waves.{last, ahead-less}
use Rattle.reach.proofs.Graph.reached.Goals as goal

pub loop-wave-smaller : goal.loop-wave-smaller
loop-wave-smaller c = ahead-less _ _ c.outward-wave.ensures.grown (search rules) (search rules)

pub loop-wave-preserved : goal.loop-wave-preserved
loop-wave-preserved c =
    let at = c.loop-wave in
    (at.invariant.0 + 1, c.outward-wave.ensures.by_index _ _ at.invariant.1)

pub returns : goal.returns
returns c = let at = c.loop-wave in last _ _ _ _ at.invariant.1 c.loop-wave-test.false
