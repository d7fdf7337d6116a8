-- From what was read of a file and its checks to the marker's contract. Assumes nothing.
use mathlib.Core.Path.{◌≡◌, refl, ap, ◌∙◌}
use mathlib.Core.List.{List}
use Rattle.std.specs.Prelude.{None, Some}
use Prim.Native.Nat.{ℕ, ◌≤◌}
use lib.ListN.{length}
use Rattle.model.specs.Book.{Grid}
use Rattle.model.specs.Marks.{mark_of, result_of}
use Rattle.dayfile.specs.Layout.{book_of}
use Rattle.dayfile.specs.Table.{refuse, first_of, sheet_lines, buffer_lines, mark_lines, moves_room}
use Rattle.dayfile.specs.Memory.{book_in, cells_in, Reads}
use Rattle.dayfile.specs.declared.Reading.{Reading}
use Rattle.dayfile.proofs.Answers.{defined-refusal, defined-answer}
use Rattle.dayfile.proofs.Lines.{none-parts, room-none}
use Rattle.sheet.specs.Sheets.{grid_of}
use Rattle.answers.specs.declared.Marking.{Marking}
use Rattle.answers.specs.declared.Marking.TheVariants.{Refused}
use Rattle.marker.specs.Marking as marking
use Rattle.marker.specs.Marking.{Marks}
use Rattle.marks.specs.Steps.{MarkedAs, Markable}
use Rattle.lawful.proofs.Readings.{book-read, fit-read, sheet-read, lawful-read}

-- a refusal
pub refused-marks : (f before : List ℕ) (n p : ℕ) → first_of (mark_lines f (length before)) ≡ Some (refuse n p) →
    Marks f before before (Refused n p)
refused-marks f before n p e = defined-refusal (refuse n p) e refl refl

-- no line holds
module _ (f before : List ℕ) (passed : first_of (mark_lines f (length before)) ≡ None) where
  parts : (first_of (sheet_lines f) ≡ None) × (first_of (buffer_lines (length before) moves_room) ≡ None)
  unfolding mark_lines
  parts = none-parts (sheet_lines f) (buffer_lines (length before) moves_room) passed

  pub has_room : moves_room ≤ length before
  has_room = room-none (length before) moves_room parts.1

  module _ (r : Reading) (reads : Reads f r) (caps sheet : Grid) (caps_are : caps ≡ grid_of r.day.caps)
      (sheet-are : sheet ≡ grid_of r.day.sheet) where
    book-is : book_in r.day.book caps ≡ book_of f
    book-is = ap (book_in r.day.book) caps_are ∙ book-read f r reads parts.0

    sheet_is : cells_in r.day.book sheet ≡ marking.marked_sheet f
    sheet_is = ap (cells_in r.day.book) sheet-are ∙ sheet-read f r reads parts.0

    pub markable : Markable r.day.book caps sheet
    markable =
        record {
          fit = rw book-is (fit-read f r reads parts.0);
          lawful = rw (book-is, sheet_is) (lawful-read f r reads parts.0);
        }

    -- the mark
    pub marked-marks : (after : List ℕ) (x : Marking) →
        MarkedAs (book_in r.day.book caps) (cells_in r.day.book sheet)
        (mark_of (book_in r.day.book caps) (cells_in r.day.book sheet)) before after x →
        Marks f before after x
    marked-marks after x h =
        let m : MarkedAs (book_of f) (marking.marked_sheet f) (mark_of (book_of f) (marking.marked_sheet f)) before after x =
        rw (book-is, sheet_is) at h in
        defined-answer (result_of (mark_of (book_of f) (marking.marked_sheet f))) passed m.says (refl, m.buffer)
