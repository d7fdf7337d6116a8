-- `climb::held_after` meets its contract.
use Rattle.climb.proofs.Searching.{held-later}
use Rattle.climb.proofs.held_after.Goals as goal

pub returns : goal.returns
returns c =
    let a = c.args in
    held-later a.row.now _ _ _ _ _ c.below-held.ensures c.full.ensures c.minus.ensures
