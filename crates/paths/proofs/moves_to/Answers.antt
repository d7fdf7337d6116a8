-- `paths::moves_to` meets its contract. Each turn finds the move before.
use mathlib.Core.Path.{◌≡◌, refl}
use Prim.Native.Nat.{suc, ◌-◌, ◌≤◌, ◌<◌}
use native.Mathlib.Omega.{arith}
use lib.ListN.{length, take, replicate, length-set}
use Rattle.lists.proofs.Alls.{taken-length}
use Rattle.sheet.specs.Sheets.{move_of}
use Rattle.masks.proofs.Laws.{in_small}
use Rattle.paths.proofs.Walking.{back, back-fewest, step_back, stored-none, walked}
use Rattle.paths.proofs.moves_to.Goals as goal

pub loop-r-init : goal.loop-r-init
loop-r-init c =
    let f = c.requires.0 in
    let few : c.args.count ≤ 31 = omega (arith, f.small) in
    let none-yet = stored-none (replicate 31 (record { window = 0; giver = 0; taker = 0 })) c.args.count few in
    record { long = refl; fewest = f; walk = rw none-yet refl }

pub move_from-m-requires : goal.move_from-m-requires
move_from-m-requires c =
    let at = c.loop-r in
    let e : at.r ≡ suc (at.r - 1) = omega arith in
    let layers = c.requires.1 in
    let f = at.invariant.fewest in
    let giver-small : at.giver < 32 = in_small _ _ (c.fits-sets at.r) f.here in
    (giver-small, back c.args.graph.now _ layers.0 (at.r - 1) _ layers.1 (rw e at f))

pub loop-r-preserved : goal.loop-r-preserved
loop-r-preserved c =
    let at = c.loop-r in
    let layers = c.requires.1 in
    let e : at.r ≡ suc (at.r - 1) = omega arith in
    let f = rw e at at.invariant.fewest in
    let w = rw e at at.invariant.walk in
    let few : c.args.count ≤ length at.moves = omega (arith, c.requires.0.small) in
    let m = c.move_from-m.ensures in
    record {
      long = simp length-set at.invariant.long;
      fewest = back-fewest c.args.graph.now _ layers.0 (at.r - 1) _ layers.1 f _ m;
      walk = step_back _ _ at.moves _ _ (at.r - 1) _ _ (omega arith) few m f w;
    }

pub returns : goal.returns
returns c =
    let at = c.loop-r in
    let few : c.args.count ≤ length at.moves = omega (arith, c.requires.0.small) in
    let all = take c.args.count at.moves in
    let z : at.r ≡ 0 = omega arith in
    record {
      counted = taken-length move_of at.moves _ few;
      path = λ I S g d layers. walked I S c.args.graph.now d _ g _ _ _ all layers z at.invariant.fewest at.invariant.walk;
    }
