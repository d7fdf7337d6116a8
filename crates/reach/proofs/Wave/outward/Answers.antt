-- `reach::Wave::outward` meets its contract.
use borrow.Author.Rules.{rules}
use mathlib.Core.Path.{◌≡◌}
use native.Mathlib.Omega.{arith}
use lib.ListN.{length}
use mir.Val.{Fits}
use mir.Syntax.{w32}
use Rattle.masks.proofs.Laws.{bit-lt, in_small}
use Rattle.reach.proofs.Waves.{grown, spread}
use Rattle.reach.proofs.Wave.outward.Goals as goal

pub union_over-requires : goal.union_over-requires
union_over-requires c =
    let long : length c.args.graph.now.rooms ≡ 32 = search rules in
    let fits : Fits w32 c.args.self.front = search rules in
    λ i p. omega (arith, in_small _ i fits.fits p)

pub union_over-requires-2 : goal.union_over-requires-2
union_over-requires-2 c =
    let long : length c.args.graph.now.holders ≡ 24 = search rules in
    let left = c.intersect-left.ensures in
    λ i p. omega (arith, c.requires i (omega (arith, left i, bit-lt c.args.self.windows i)))

pub returns : goal.returns
returns c =
    let fresh = c.minus-front.ensures in
    let joined = c.union.ensures in record {
      grown = grown c.args.self _ _ _ _ fresh joined;
      by_index = λ g n s. spread c.args.graph.now g n c.args.self s _ _ _ _ _ _ c.union_over.ensures c.intersect-left.ensures
          c.union_over-2.ensures fresh joined c.minus.ensures;
    }
