-- A file with a settled sheet gets mark 4. Assumes nothing.
use mathlib.Core.Path.{◌≡◌, ap, ◌∙◌}
use mathlib.Core.List.{List}
use Rattle.std.specs.Prelude.{Option, Some}
use Prim.Native.Nat.{ℕ, ◌≤◌}
use lib.ListN.{length}
use Rattle.fairness.specs.Exchange.{Settled}
use Rattle.model.specs.Book.{Book, Grid, cell, instance_of}
use Rattle.model.specs.Marks.{settled, mark_of}
use Rattle.model.proofs.Theorems.{settled-mark}
use Rattle.dayfile.specs.Layout.{book_of}
use Rattle.dayfile.specs.Table.{Refusal, mark_lines, moves_room}
use Rattle.dayfile.specs.Outcome.{answer, unless, read_file}
use Rattle.dayfile.proofs.Lines.{none-first-of}
use Rattle.answers.specs.declared.Marking.{Marking}
use Rattle.answers.specs.Answers.{told}
use Rattle.marker.specs.Marking.{marked_sheet, mark_file, results, Marks}
use Rattle.lawful.proofs.Taken.{book-is, sheet-in, sheet-shape, none-hold}
use Rattle.marker.proofs.Theorems.{marks-says}

module _ (f : List ℕ) (b : Book) (s : Grid) (read : read_file f ≡ answer (b, Some s)) (done : Settled (instance_of b) (cell s)) where
  settled_here : Settled (instance_of (book_of f)) (cell (marked_sheet f))
  settled_here = rw (book-is f b s read, sheet-in f b s read) done

  -- by the rules, whatever the buffer, if it is long enough
  marked-settled : (room : ℕ) → moves_room ≤ room → mark_file f room ≡ answer settled
  unfolding mark_file
  marked-settled room long =
      ap (λ (o : Option Refusal). unless o (mark_of (book_of f) (marked_sheet f)))
      (none-first-of (mark_lines f room) (none-hold f b s read done.feasible room long))
      ∙ ap answer ((settled-mark (book_of f) (marked_sheet f) (sheet-shape f b s read) settled_here.feasible).1 settled_here)

  -- so the marker answers it
  pub marked-4 : (before after : List ℕ) (r : Marking) → moves_room ≤ length before → Marks f before after r →
      told r ≡ answer (record { mark = 4; window = 0; seat = 0; moves = 0 })
  marked-4 before after r long marks = marks-says f before after r marks ∙ ap results (marked-settled (length before) long)
