-- Demand 3 for the planner, over its contract `Plans`, with the definitions of specs/ alone.
use mathlib.Core.Path.{◌≡◌, sym, ap, ◌∙◌}
use mathlib.Core.List.{List}
use Rattle.std.specs.Prelude.{Some}
use Prim.Native.Nat.{ℕ}
use lib.ListN.{length}
use Rattle.fairness.specs.Exchange.{Settled}
use Rattle.fairness.proofs.Theorems.{settled-highest}
use Rattle.model.specs.Book.{Grid, SheetOf, cell, instance_of, totals}
use Rattle.model.specs.Fair.{profile_of, HighestList}
use Rattle.model.proofs.Theorems as model
use Rattle.dayfile.specs.declared.Written.{Written}
use Rattle.dayfile.specs.Bounds.{Fit}
use Rattle.dayfile.specs.Layout.{book_of, sheet_of}
use Rattle.dayfile.specs.File.{file_of}
use Rattle.dayfile.specs.Table.{read_lines, forecast_lines, plan_lines, buffer_lines, planned_length}
use Rattle.dayfile.specs.Outcome.{answer, read_file, NoneHolds}
use Rattle.dayfile.specs.Memory.{written}
use Rattle.dayfile.proofs.Idle.{read-free}
use Rattle.dayfile.proofs.Lines.{none-first-of, none-parts, none-holds}
use Rattle.dayfile.proofs.Lengths.{planned-length}
use Rattle.dayfile.proofs.Theorems.{accepted-exactly, accepted-fits, written_reads_back}
use Rattle.planner.specs.Planning.{Planned, Plans}

-- where no line of the table holds
module _
    (file before after : List ℕ) (r : Written) (plans : Plans file before after r)
    (none-hold : NoneHolds (plan_lines file (length before)))
  where
    -- the standard sheet was planned, and its file stands at the buffer's front
    pub planned : Planned (book_of file) before after
    planned = (plans.gives none-hold).1.1.1

    -- the planned file
    abbrev pub the_file : List ℕ
    the_file = file_of (book_of file) (Some planned.sheet)

    shape : SheetOf (book_of file) planned.sheet
    shape = planned.standard.a_sheet

    -- it is settled
    pub settled : Settled (instance_of (book_of file)) (cell planned.sheet)
    settled = planned.standard.standard.settled

    fit : Fit (book_of file)
    unfolding plan_lines
    fit =
        let free = (none-parts (forecast_lines file) (buffer_lines (length before) (planned_length (book_of file)))
        (none-first-of (plan_lines file (length before)) none-hold)).0 in
        let accepted = none-holds (read_lines file) (read-free file free) in
        (accepted-fits file (book_of file) (sheet_of file) ((accepted-exactly file).1 accepted)).0

    -- the answer is its length
    pub told-length : written r ≡ answer (length the_file)
    told-length =
        (plans.gives none-hold).1.0
        ∙ ap answer ((plans.gives none-hold).1.1.0
        ∙ sym (planned-length (book_of file) planned.sheet fit.cap_shape shape))

    -- it reads back as the same book with the planned sheet
    pub reads_back : read_file the_file ≡ answer (book_of file, Some planned.sheet)
    reads_back = written_reads_back (book_of file) (Some planned.sheet) fit shape

    -- the planned sheet's list is the highest list of the book
    pub highest : HighestList (book_of file) (profile_of (book_of file) planned.sheet)
    highest =
        (model.highest-list (book_of file) planned.sheet shape settled.feasible).1
        (settled-highest (instance_of (book_of file)) (model.proper (book_of file)) (cell planned.sheet) settled)

    -- and all settled sheets of the book have the planned totals
    pub settled-totals : (s : Grid) → Settled (instance_of (book_of file)) (cell s) →
        totals (book_of file) s ≡ totals (book_of file) planned.sheet
    settled-totals s h = model.settled-totals (book_of file) s planned.sheet h settled
