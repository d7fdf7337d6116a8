-- `grant::short_group` meets its contract, by what the look for a short seat tells.
use native.Mathlib.Omega.{arith}
use Rattle.grant.proofs.Groups.{short-at, none_short, reached-found, reached-none}
use Rattle.grant.proofs.short_group.Goals as goal

pub reached-requires : goal.reached-requires
reached-requires c =
    let at = short-at _ _ _ _ c.first_short.ensures _ c.in-At.is in
    let few = c.requires.0 in
    omega (arith, at.0, few)

pub returns-in-At : goal.returns-in-At
returns-in-At c =
    let a = c.args in
    let at = short-at _ _ _ _ c.first_short.ensures _ c.in-At.is in
    let graph = c.graph_of in
    λ I told.
    reached-found a.t a.caps.now I told a.wants a.sheet.now c.totals.result c.totals.ensures
    graph.result graph.ensures _ _ at c.reached.ensures

pub returns : goal.returns
returns c =
    let a = c.args in
    λ I told.
    reached-none a.t a.caps.now I told a.wants a.sheet.now c.totals.result c.totals.ensures
    (none_short _ _ _ _ c.first_short.ensures c.in_default.is)
