-- `climb::play_cycle` meets its contract.
use Rattle.paths.specs.Paths.{moves_of}
use Rattle.climb.specs.Cycles.{cycle_moves}
use Rattle.settle.proofs.Playing.{sheet-able}
use Rattle.climb.proofs.Climbing.{closed-able, closed-plays}
use Rattle.climb.proofs.play_cycle.Goals as goal

pub play-closed-requires : goal.play-closed-requires
play-closed-requires c = (sheet-able _ _ (cycle_moves c.args.cycle.now) c.from_grid-before.ensures c.requires.all_playable).0

pub play_path-requires-clause-all_playable : goal.play_path-requires-clause-all_playable
play_path-requires-clause-all_playable c =
    let able = closed-able _ _ _ _ _ c.from_grid-before.ensures c.play-closed.ensures c.to_grid.ensures in
    able (moves_of c.args.cycle.now.path) c.requires.all_playable

pub returns : goal.returns
returns c =
    let plays = closed-plays _ _ _ _ _ c.from_grid-before.ensures c.play-closed.ensures c.to_grid.ensures in
    plays (moves_of c.args.cycle.now.path) _ c.play_path.ensures
