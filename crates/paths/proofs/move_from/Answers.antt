-- `paths::move_from` meets its contract.
use mathlib.Core.Path.{refl}
use native.Mathlib.Omega.{arith}
use Rattle.masks.proofs.Laws.{in_pos}
use Rattle.paths.proofs.Walking.{gives-meets, meets-leads}
use Rattle.paths.proofs.move_from.Goals as goal

pub first_meeting-taker-requires-clause-by_index : goal.first_meeting-taker-requires-clause-by_index
first_meeting-taker-requires-clause-by_index c =
    let gives = c.requires.1 in
    (gives.0, gives-meets c.args.graph.now _ _ c.column-windows.ensures _ _ gives.1.0 gives.1.1)

pub lowest-window-requires : goal.lowest-window-requires
lowest-window-requires c =
    let m = c.first_meeting-taker.ensures.meets in
    in_pos _ m.shared (omega (arith, c.intersect.ensures m.shared, m.own, m.others))

pub returns : goal.returns
returns c = record {
  giver_is = refl;
  taker_in = c.first_meeting-taker.ensures.meets.member;
  shown = meets-leads c.args.graph.now _ _ c.column-windows.ensures _ _ _ c.intersect.ensures c.lowest-window.ensures.here;
}
