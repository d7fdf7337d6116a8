-- `cells::cell_above` meets its contract: line 14 by cases on the entry of kind 4.
use mathlib.Core.Path.{◌∙◌}
use native.Mathlib.Omega.{arith}
use Rattle.dayfile.proofs.Answers.{at-line, no_line, under_at}
use Rattle.fields.proofs.Products.{small}
use Rattle.cells.proofs.Sheets.{above_as, none_above}
use Rattle.cells.proofs.cell_above.Goals as goal

pub start-requires : goal.start-requires
start-requires c = under_at 65536 c.entry_of.ensures.1 c.in-At.is

pub overflow_mul-seats : goal.overflow_mul-seats
overflow_mul-seats c = let p = small c.seats.ensures.1 c.windows.ensures.1 in omega arith

pub first_above-requires : goal.first_above-requires
first_above-requires c =
    let p = small c.seats.ensures.1 c.windows.ensures.1 in
    (c.start.ensures.1, c.start-in-At.ensures.1, omega arith)

pub returns-in-At : goal.returns-in-At
returns-in-At c =
    c.first_above.ensures
    ∙ above_as _ (at-line c.entry_of.ensures.0 c.in-At.is)
    c.start.ensures.0 c.start-in-At.ensures.0 c.seats.ensures.0 c.windows.ensures.0

pub returns : goal.returns
returns c = none_above _ (no_line c.entry_of.ensures.0 c.in_default.is)
