-- `search::first_pair` meets its contract.
use mathlib.Core.Path.{refl}
use Rattle.search.proofs.Donors.{some-donor, first-pair}
use Rattle.search.proofs.first_pair.Goals as goal

pub returns : goal.returns
returns c =
    let f = c.in_ok-receiver.ensures in
    (refl, first-pair _ _ _ _ _ c.wanted_by-wanted.ensures _ _ c.reached.ensures c.intersect-donors.ensures f _ c.lowest.ensures)

pub lowest-requires : goal.lowest-requires
lowest-requires c =
    some-donor _ _ _ _ _ c.wanted_by-wanted.ensures _ _ c.reached.ensures c.intersect-donors.ensures c.in_ok-receiver.ensures
