-- `grant::alone_group` meets its contract, by what the look for a short seat tells.
use native.Mathlib.Omega.{arith}
use Rattle.grant.proofs.Groups.{short-at, none_short, alone-found, alone-none}
use Rattle.grant.proofs.alone_group.Goals as goal

pub insert-requires : goal.insert-requires
insert-requires c =
    let at = short-at _ _ _ _ c.first_short.ensures _ c.in-At.is in
    let few = c.requires.0 in
    omega (arith, at.0, few)

pub returns-in-At : goal.returns-in-At
returns-in-At c =
    let a = c.args in
    let at = short-at _ _ _ _ c.first_short.ensures _ c.in-At.is in
    λ I told.
    alone-found a.t a.caps.now I told a.wants c.alone_totals.result c.alone_totals.ensures _ _ at
    c.insert.ensures

pub returns : goal.returns
returns c =
    let a = c.args in
    λ I told.
    alone-none a.t a.caps.now I told a.wants c.alone_totals.result c.alone_totals.ensures
    (none_short _ _ _ _ c.first_short.ensures c.in_default.is)
