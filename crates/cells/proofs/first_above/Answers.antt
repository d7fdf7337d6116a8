-- `cells::first_above` meets its contract: no field passed yet is above its fellow.
use mathlib.Core.Path.{refl, ap}
use Rattle.dayfile.specs.Table.{offset}
use Rattle.dayfile.proofs.Search.{search-first, search-on, search-hit, search-end}
use Rattle.cells.specs.Firsts.{first_above}
use Rattle.cells.proofs.Sheets.{is_below, not-below}
use Rattle.cells.proofs.first_above.Goals as goal

pub loop-i-init : goal.loop-i-init
loop-i-init c = search-first refl

pub returns-then-field : goal.returns-then-field
unfolding first_above
returns-then-field c =
    let test = is_below c.field.ensures.0 c.field-in-loop-i.ensures.0 c.if-field.true in
    ap (offset _) (search-hit c.loop-i.invariant c.loop-i-test.true test)

pub loop-i-preserved : goal.loop-i-preserved
loop-i-preserved c =
    let test = not-below c.field.ensures.0 c.field-in-loop-i.ensures.0 c.if-field.false in
    search-on c.loop-i.invariant c.loop-i-test.true test

pub returns : goal.returns
unfolding first_above
returns c = ap (offset _) (search-end c.loop-i.invariant c.loop-i-test.false)
