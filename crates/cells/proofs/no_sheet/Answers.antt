-- `cells::no_sheet` meets its contract: line 13 by cases on the entry of kind 4.
use mathlib.Core.Path.{refl}
use Rattle.dayfile.specs.Table.{line13}
use Rattle.dayfile.proofs.Answers.{at-line, no_line}
use Rattle.cells.proofs.no_sheet.Goals as goal

pub returns-in-At : goal.returns-in-At
unfolding line13
returns-in-At c = rw (at-line c.entry_of.ensures.0 c.in-At.is) refl

pub returns : goal.returns
unfolding line13
returns c = rw (no_line c.entry_of.ensures.0 c.in_default.is) refl
