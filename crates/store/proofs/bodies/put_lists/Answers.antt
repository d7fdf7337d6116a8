use Rattle.store.proofs.Storing.{begun_first, begun-room, begun-next, begun-end}
use Rattle.store.proofs.bodies.put_lists.Goals as goal

pub put_all-p-requires : goal.put_all-p-requires
put_all-p-requires c = begun-room (begun_first _ c.requires)

pub put_all-requires : goal.put_all-requires
put_all-requires c =
    begun-room (begun-next (begun_first _ c.requires) c.put_all-p.ensures)

pub returns : goal.returns
returns c =
    begun-end (begun-next (begun-next (begun_first _ c.requires) c.put_all-p.ensures) c.put_all.ensures)
