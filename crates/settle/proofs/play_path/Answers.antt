-- `settle::play_path` meets its contract. Each turn plays one move.
use borrow.Author.Rules.{rules}
use Prim.Native.Nat.{ℕ}
use mathlib.Core.Path.{ap}
use native.Mathlib.Omega.{arith}
use Rattle.paths.specs.Paths.{moves_of}
use Rattle.sheet.specs.Sheets.{credit}
use Rattle.settle.proofs.Playing.{item-is, items-long, first, this, next, last, sheet-able, grid-plays}
use Rattle.settle.proofs.play_path.Goals as goal

pub loop-m-init : goal.loop-m-init
loop-m-init c = record {
  items = search rules;
  played = first _ _ (sheet-able _ _ (moves_of c.args.path.now) c.from_grid-after.ensures c.requires.all_playable);
}

pub play-after-requires : goal.play-after-requires
play-after-requires c =
    let l = c.loop-m in
    let here = items-long c.args.path.now _ l.invariant.items in
    this _ _ l.m-index (credit l.after) l.invariant.played (omega (arith, here)) _ _
    (item-is c.args.path.now _ l.invariant.items l.m-index _)

pub loop-m-preserved : goal.loop-m-preserved
loop-m-preserved c =
    let l = c.loop-m in
    let here = items-long c.args.path.now _ l.invariant.items in
    let more = next _ _ l.m-index (credit l.after) l.invariant.played (omega (arith, here)) _ _
    (item-is c.args.path.now _ l.invariant.items l.m-index _) in
    record { items = l.invariant.items; played = more _ (λ i j. ap (λ (f : ℕ → ℕ → ℕ). f i j) c.play-after.ensures) }

pub returns : goal.returns
returns c =
    let l = c.loop-m in
    let here = items-long c.args.path.now _ l.invariant.items in
    let played = last _ _ l.m-index (credit l.after) l.invariant.played (omega (arith, here)) in
    grid-plays _ l.after _ _ (moves_of c.args.path.now) c.from_grid-after.ensures c.to_grid.ensures played
