-- `grant::settle_short` meets its contract: nobody is short, or the sheet is settled.
use lib.ListN.{get_or}
use Rattle.model.specs.Book.{cell}
use Rattle.instance.proofs.Told.{told_in}
use Rattle.grant.proofs.Groups.{none_short, reached-none, small-aimed, feasible-aimed, served-enough, settled-enough}
use Rattle.grant.proofs.settle_short.Goals as goal

pub returns-in-Nothing : goal.returns-in-Nothing
returns-in-Nothing c =
    let a = c.args in
    λ I told.
    served-enough a.t a.caps.now I told a.wants a.sheet.now c.requires.feasible
    (reached-none a.t a.caps.now I told a.wants a.sheet.now c.totals.result c.totals.ensures
    (none_short _ _ _ _ c.first_short.ensures c.in-Nothing.is))

pub settled_from-requires : goal.settled_from-requires
settled_from-requires c =
    let a = c.args in
    let told = c.aim.ensures.told _ a.caps.now (told_in a.t a.caps.now) in record {
      small = small-aimed a.t c.aim.result a.caps.now (λ i. get_or a.wants i 0) told c.requires.small c.aim.ensures.ranged;
      feasible = feasible-aimed a.t c.aim.result a.caps.now (λ i. get_or a.wants i 0) told a.sheet.now c.requires.feasible;
    }

pub returns : goal.returns
returns c =
    let a = c.args in
    λ I told.
    settled-enough a.t a.caps.now I told a.wants c.requires.by_index (cell c.settled_from.result)
    (c.settled_from.ensures _ (c.aim.ensures.told I a.caps.now told)) c.short_group.result
    (c.short_group.ensures I told)
