-- `grant::grant` meets its contract: a seat alone, a group, or the sheet cut to the wants.
use Rattle.model.specs.Book.{cell}
use Rattle.instance.proofs.Told.{told_in}
use Rattle.grant.proofs.Groups.{some-group, of-group, of_none, alone-small, granted-sheet}
use Rattle.grant.proofs.grant.Goals as goal

pub returns-then-alone-ne0 : goal.returns-then-alone-ne0
returns-then-alone-ne0 c =
    λ I told. some-group _ _ _ c.if-alone-ne0.true (of-group _ _ _ c.if-alone-ne0.true (c.alone_group-alone.ensures I told))

pub settle_short-group-requires : goal.settle_short-group-requires
settle_short-group-requires c =
    let a = c.args in
    let here = told_in a.t a.caps.now in
    let none = of_none _ _ _ c.if-alone-ne0.false (c.alone_group-alone.ensures _ here) in record {
      small = c.requires;
      feasible = c.serve.ensures;
      by_index = alone-small a.t a.caps.now _ here a.wants c.requires none;
    }

pub returns-then-group-ne0 : goal.returns-then-group-ne0
returns-then-group-ne0 c =
    λ I told. some-group _ _ _ c.if-group-ne0.true (of-group _ _ _ c.if-group-ne0.true (c.settle_short-group.ensures I told))

pub returns : goal.returns
returns c =
    let a = c.args in
    λ I told.
    granted-sheet a.t a.caps.now I told a.wants _ (cell c.trim.result)
    (of_none _ _ _ c.if-group-ne0.false (c.settle_short-group.ensures I told)) c.trim.ensures
