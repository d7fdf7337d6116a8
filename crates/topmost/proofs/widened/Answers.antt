-- `topmost::widened` meets its contract.
use borrow.Author.Rules.{rules}
use native.Mathlib.Omega.{arith}
use Rattle.topmost.proofs.Sets.{share, no-share, widens, stays}
use Rattle.topmost.proofs.widened.Goals as goal

pub returns-then-intersect-ne0 : goal.returns-then-intersect-ne0
returns-then-intersect-ne0 c =
    let both : _ = share _ _ _ c.intersect.ensures (omega arith) (search rules) in
    widens _ _ _ _ c.union.ensures both

pub returns : goal.returns
returns c = stays _ _ _ (no-share _ _ _ c.intersect.ensures c.if-intersect-ne0.false)
