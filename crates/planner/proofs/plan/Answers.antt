-- `planner::plan` meets its contract: what is read, planned and written.
use mathlib.Core.Path.{◌≡◌, ap, ◌∙◌}
use mathlib.Core.Bool.{true}
use Rattle.std.specs.Prelude.{None}
use native.Mathlib.Nat.{le_trans, le_of_eq}
use lib.ListN.{length}
use Rattle.dayfile.specs.Bounds.{Fit}
use Rattle.dayfile.specs.Layout.{book_of}
use Rattle.dayfile.specs.Table.{first_of, read_lines, idle_lines, buffer_lines, planned_length}
use Rattle.dayfile.specs.Memory.{book_in, file_with}
use Rattle.dayfile.proofs.Answers.{refuses, passes}
use Rattle.dayfile.proofs.Lines.{none-parts, room-none}
use Rattle.dayfile.proofs.Readings.{read-refused, read-sound, read-book, read-book-fits}
use Rattle.dayfile.proofs.Used.{range-in, planned-size}
use Rattle.planner.proofs.Steps.{planned-is, plan-stop, plan-on, plan-refused, plan-whole}
use Rattle.planner.proofs.plan.Goals.{In_default, After-to_grid-caps, After-planned_sheet-sheet}
use Rattle.planner.proofs.plan.Goals as goal

pub returns-in-Refused : goal.returns-in-Refused
returns-in-Refused c =
    let refused = read-refused _ _ c.read-reading.ensures c.in-Refused.is in
    plan-refused _ _ _ _ (plan-stop _ _ _ refused)

-- ---- no line of the reader's holds

accepted : (c : In_default) → first_of (read_lines c.args.file.now) ≡ None
accepted c = read-sound _ _ c.read-reading.ensures c.in_default.is

-- the file's book is in memory, its caps as an array of arrays
the-book : (c : After-to_grid-caps) → book_in c.read-reading.result.day.book c.to_grid-caps.result ≡ book_of c.args.file.now
the-book c =
    let reads = c.read-reading.ensures in
    read-book _ _ reads (read-sound _ _ reads c.in_default.is) _ c.to_grid-caps.ensures

the-fit : (c : After-to_grid-caps) → Fit (book_in c.read-reading.result.day.book c.to_grid-caps.result)
the-fit c =
    let reads = c.read-reading.ensures in
    read-book-fits _ _ reads (read-sound _ _ reads c.in_default.is) _ c.to_grid-caps.ensures

pub check_rest-requires : goal.check_rest-requires
check_rest-requires c =
    let ready = (goal.at.check_rest-requires c).After-to_grid-caps in
    (the-book ready, the-fit ready)

pub returns-in-Refused-check_rest : goal.returns-in-Refused-check_rest
returns-in-Refused-check_rest c =
    let refused = refuses c.check_rest.ensures c.in-Refused-check_rest.is in
    plan-refused _ _ _ _ (plan-on _ _ (accepted (goal.at.returns-in-Refused-check_rest c).In_default) ∙ refused)

-- ---- no line holds

pub planned_sheet-sheet-requires : goal.planned_sheet-sheet-requires
planned_sheet-sheet-requires c =
    let ready = (goal.at.planned_sheet-sheet-requires c).After-to_grid-caps in
    the-fit ready

-- so long is the file that is put
length_is : (c : After-planned_sheet-sheet) →
    book_in c.read-reading.result.day.book c.to_grid-caps.result ≡ book_of c.args.file.now →
    length (file_with c.read-reading.result.day.book c.to_grid-caps.result true c.planned_sheet-sheet.result)
    ≡ planned_length (book_of c.args.file.now)
length_is c book = planned-size _ _ c.planned_sheet-sheet.result ∙ ap planned_length book

pub put_file-length-requires : goal.put_file-length-requires
put_file-length-requires c =
    let ready = (goal.at.put_file-length-requires c).After-to_grid-caps in
    let size = length_is (goal.at.put_file-length-requires c).After-planned_sheet-sheet (the-book ready) in
    let room = (none-parts (idle_lines _) (buffer_lines _ _) (passes c.check_rest.ensures c.in_default-check_rest.is)).1 in
    record {
      seats_bound = range-in _ _ (the-fit ready);
      sheet_in_bounds = le_trans (le_of_eq size) (room-none _ _ room);
    }

pub returns : goal.returns
returns c =
    let ready = (goal.at.returns c).After-to_grid-caps in
    let free = plan-on _ _ (accepted (goal.at.returns c).In_default) ∙ passes c.check_rest.ensures c.in_default-check_rest.is in
    let size = length_is (goal.at.returns c).After-planned_sheet-sheet (the-book ready) in
    plan-whole _ _ free _ (the-book ready) _ _ (c.put_file-length.ensures.length ∙ size)
    (planned-is _ _ _ c.planned_sheet-sheet.ensures _ _ c.put_file-length.ensures.file)
