-- The day that was handed in, and how large the numbers of a mark can be. Assumes nothing.
use mathlib.Core.Path.{◌≡◌, refl}
use mathlib.Core.List.{List}
use Rattle.std.specs.Prelude.{Option, None, Some}
use Prim.Native.Nat.{ℕ}
use native.Mathlib.Omega.{arith}
use lib.ListN.{length}
use Rattle.model.specs.Marks.{mark_of}
use Rattle.model.proofs.Marks.{within-book}
use Rattle.dayfile.specs.Layout.{book_of}
use Rattle.dayfile.specs.Table.{Refusal, first_of, read_lines, marker_lines, sheet_lines, buffer_lines, mark_lines, moves_room}
use Rattle.dayfile.specs.Outcome.{unless}
use Rattle.dayfile.specs.declared.Day.{Day}
use Rattle.dayfile.specs.declared.Written.{Written}
use Rattle.dayfile.specs.Memory.{WritesDay}
use Rattle.dayfile.proofs.Lines.{none-parts}
use Rattle.dayfile.proofs.Sound.{sound}
use Rattle.dayfile.proofs.Accepted.{fits}
use Rattle.answers.specs.declared.Marking.{Marking}
use Rattle.answers.specs.Answers.{told}
use Rattle.marker.specs.Marking.{marked_sheet, mark_file, results, Marks}
use Rattle.marker.proofs.Theorems.{marks-says}
use Rattle.answers.specs.declared.WriteResult.{WriteResult}
use Rattle.answers.specs.Numbers.{write_numbers}
use Rattle.answers.specs.Steps.{Small}
use Rattle.credits.specs.Calls.{InNumbers}

-- the writer is given a day that is another's
pub writes_as : {d e : Day} {before after : List ℕ} (w : Written) {r : WriteResult} → d ≡ e → WritesDay d before after w →
    r ≡ write_numbers w → InNumbers write_numbers (WritesDay e before after) r
writes_as w p h is = record { answers = w; meets = rw p at h; says = is }

-- whatever the marker answers for a file and a buffer is small
pub small : (f before after : List ℕ) (r : Marking) → Marks f before after r → Small (told r)
unfolding mark_file mark_lines sheet_lines
small f before after r m = rw (marks-says f before after r m) (go (first_of (mark_lines f (length before))) refl)
  where
    go : (o : Option Refusal) → first_of (mark_lines f (length before)) ≡ o →
        Small (results (unless o (mark_of (book_of f) (marked_sheet f))))
    go (Some q) e = tt
    go None e =
        let read =
        (none-parts (read_lines f) (marker_lines f) (none-parts (sheet_lines f) (buffer_lines (length before) moves_room) e).0).0 in
        let fit = fits f (sound f read) in
        let within = within-book (book_of f) (marked_sheet f) in (
          omega (arith, within.window, fit.windows_high),
          omega (arith, within.seat, fit.seats_high),
          omega (arith, within.moves, fit.seats_high),
        )
