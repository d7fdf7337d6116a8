-- `climb::closed_in` meets its contract.
use mathlib.Core.Path.{refl}
use Rattle.climb.proofs.Searching.{room-meets, meets-room}
use Rattle.climb.proofs.closed_in.Goals as goal

pub first_meeting-taker-requires-clause-by_index : goal.first_meeting-taker-requires-clause-by_index
first_meeting-taker-requires-clause-by_index c = room-meets _ _ _ _ c.insert.ensures c.requires.through

pub shortest-requires : goal.shortest-requires
shortest-requires c = (c.requires.giver_bound.0, c.requires.by_index _ c.first_meeting-taker.ensures.meets.member)

pub returns : goal.returns
returns c = record {
  giver_is = refl;
  window_is = refl;
  room = meets-room _ _ _ _ c.insert.ensures _ c.first_meeting-taker.ensures.meets;
  path = c.shortest.ensures;
}
