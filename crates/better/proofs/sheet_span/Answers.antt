-- `better::sheet_span` meets its contract, by cases on the entry of kind 4.
use Rattle.dayfile.proofs.Answers.{at-line, no_line, under_at}
use Rattle.better.proofs.Bodies.{span-at, no_span}
use Rattle.better.proofs.sheet_span.Goals as goal

pub start-requires : goal.start-requires
start-requires c = under_at 65536 c.entry_of.ensures.1 c.in-At.is

pub size-requires : goal.size-requires
size-requires c = under_at 65536 c.entry_of.ensures.1 c.in-At.is

pub returns-in-At : goal.returns-in-At
returns-in-At c =
    span-at _ (at-line c.entry_of.ensures.0 c.in-At.is)
    c.start.ensures.0 c.size.ensures.0

pub returns : goal.returns
returns c = no_span _ (no_line c.entry_of.ensures.0 c.in_default.is)
