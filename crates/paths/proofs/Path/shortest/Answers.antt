-- `paths::Path::shortest` meets its contract.
use borrow.Author.Rules.{rules}
use mathlib.Core.Path.{refl}
use native.Mathlib.Omega.{arith}
use mir.Val.{Fits}
use mir.Syntax.{w32}
use Rattle.masks.proofs.Laws.{in_small}
use Rattle.reach.specs.Graphs.{set_at}
use Rattle.paths.proofs.Path.shortest.Goals as goal

-- the donor is in the last layer
pub fewest-count-requires : goal.fewest-count-requires
fewest-count-requires c =
    let here = c.layers-sets.ensures.all _ c.requires.1 in
    let fits : Fits w32 (set_at c.layers-sets.result 31) = search rules in
    (in_small _ _ fits.fits here, here)

pub moves_to-requires : goal.moves_to-requires
moves_to-requires c = (c.fewest-count.ensures, (_, c.layers-sets.ensures.layers))

pub returns : goal.returns
returns c =
    let few = c.fewest-count.ensures in
    let layers = c.layers-sets.ensures.layers in
    let way = c.moves_to.ensures in
    record {
      receiver_is = refl;
      donor_is = refl;
      fewest = λ q h p. omega (arith, few.least q h, (layers q (omega (arith, few.small)) _).1 p);
      counted = way.counted;
      path = λ I S d. way.path I S _ d layers;
    }
