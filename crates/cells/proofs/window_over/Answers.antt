-- `cells::window_over` meets its contract: line 15 by cases on the entry of kind 4.
use mathlib.Core.Path.{◌∙◌}
use Rattle.dayfile.proofs.Answers.{at-line, no_line, under_at}
use Rattle.cells.proofs.Sheets.{over-as, none_over}
use Rattle.cells.proofs.window_over.Goals as goal

pub first_over-requires : goal.first_over-requires
first_over-requires c = under_at 65536 c.entry_of.ensures.1 c.in-At.is

pub returns-in-At : goal.returns-in-At
returns-in-At c =
    c.first_over.ensures ∙ over-as _ (at-line c.entry_of.ensures.0 c.in-At.is)

pub returns : goal.returns
returns c = none_over _ (no_line c.entry_of.ensures.0 c.in_default.is)
