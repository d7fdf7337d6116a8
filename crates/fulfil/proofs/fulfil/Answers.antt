-- `fulfil::fulfil` meets its contract: what is read, granted and stored.
use mathlib.Core.Path.{◌≡◌, sym, subst}
use Rattle.std.specs.Prelude.{None}
use Rattle.model.specs.Book.{Grid}
use Rattle.dayfile.specs.Bounds.{Fit}
use Rattle.dayfile.specs.Table.{first_of, read_lines}
use Rattle.dayfile.specs.Memory.{book_in}
use Rattle.dayfile.proofs.Answers.{refuses, passes}
use Rattle.dayfile.proofs.Readings.{read-refused, read-sound, read_fits}
use Rattle.dayfile.proofs.Used.{range-in}
use Rattle.instance.proofs.Told.{small-told}
use Rattle.grant.proofs.Groups.{of-group, of_none}
use Rattle.fulfil.proofs.Replies.{Asked, fulfil-refused, lent-refused, fulfil-group, body-room, fulfil-sheet}
use Rattle.fulfil.proofs.fulfil.Goals.{In_default, After-to_grid-caps, After-wants_of}
use Rattle.fulfil.proofs.fulfil.Goals as goal

pub returns-in-Refused : goal.returns-in-Refused
returns-in-Refused c = fulfil-refused _ _ _ _ _ (read-refused _ _ c.read-reading.ensures c.in-Refused.is)

-- no line of the reader's holds
free : (c : In_default) → first_of (read_lines c.args.file.now) ≡ None
free c = read-sound _ _ c.read-reading.ensures c.in_default.is

-- the book fits, with its caps as an array of arrays
fits : (c : After-to_grid-caps) → Fit (book_in c.read-reading.result.day.book c.to_grid-caps.result)
fits c =
    let reads = c.read-reading.ensures in
    subst (λ (g : Grid). Fit (book_in c.read-reading.result.day.book g)) (sym c.to_grid-caps.ensures)
    (read_fits _ _ reads (read-sound _ _ reads c.in_default.is))

-- what is asked, of the book and the wants as they are in memory
abbrev asked : (c : After-wants_of) → Asked c.args.file.now c.args.row.now c.args.out.now
asked c = record {
  reading = c.read-reading.result;
  reads = c.read-reading.ensures;
  free = read-sound _ _ c.read-reading.ensures c.in_default.is;
  lent = passes c.check_lent.ensures c.in_default-check_lent.is;
  caps = c.to_grid-caps.result;
  caps_are = c.to_grid-caps.ensures;
  wants = c.wants_of.result;
  wants_are = c.wants_of.ensures;
}

pub returns-in-Refused-check_lent : goal.returns-in-Refused-check_lent
returns-in-Refused-check_lent c =
    let clear = free (goal.at.returns-in-Refused-check_lent c).In_default in
    lent-refused _ _ _ clear _ _ (refuses c.check_lent.ensures c.in-Refused-check_lent.is)

pub wants_of-requires : goal.wants_of-requires
wants_of-requires c =
    (range-in _ _ (fits (goal.at.wants_of-requires c).After-to_grid-caps)).0

pub grant-group-requires : goal.grant-group-requires
grant-group-requires c =
    let caps = c.to_grid-caps.result in
    let fit = fits (goal.at.grant-group-requires c).After-to_grid-caps in
    small-told _ c.terms_of.result caps fit (c.terms_of.ensures.told caps) c.terms_of.ensures.ranged

pub returns-then-group-ne0 : goal.returns-then-group-ne0
returns-then-group-ne0 c =
    let told = c.terms_of.ensures.told c.to_grid-caps.result in
    let wants = (goal.at.returns-then-group-ne0 c).After-wants_of in
    fulfil-group _ _ _ (asked wants) _ (of-group _ _ _ c.if-group-ne0.true (c.grant-group.ensures _ told))

pub put_rows-length-requires : goal.put_rows-length-requires
put_rows-length-requires c =
    let fit = fits (goal.at.put_rows-length-requires c).After-to_grid-caps in
    let wants = (goal.at.put_rows-length-requires c).After-wants_of in
    ((range-in _ _ fit).0, body-room _ _ _ (asked wants) _)

pub returns : goal.returns
returns c =
    let told = c.terms_of.ensures.told c.to_grid-caps.result in
    let wants = (goal.at.returns c).After-wants_of in
    fulfil-sheet _ _ _ (asked wants) _ (of_none _ _ _ c.if-group-ne0.false (c.grant-group.ensures _ told)) _ _ c.put_rows-length.ensures

pub terms_of-requires : goal.terms_of-requires
terms_of-requires c =
    (_, fits (goal.at.terms_of-requires c).After-to_grid-caps)
