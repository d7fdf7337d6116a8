-- An accepted file with a lawful sheet meets no line of the table where the buffer is long enough. Assumes nothing.
use mathlib.Core.Path.{◌≡◌, refl, ap, ◌∙◌}
use mathlib.Core.Bool.{not}
use mathlib.Core.List.{List, []}
use Rattle.std.specs.Prelude.{Option, None, Some}
use Prim.Native.Nat.{ℕ, ◌≤◌}
use native.Mathlib.Omega.{arith}
use Rattle.model.specs.Lowest.{when, is_some, and_then, value_or}
use Rattle.model.specs.Book.{Book, Grid, SheetOf, Lawful}
use Rattle.dayfile.specs.Layout.{book_of, sheet_of, entry_of, grid_at, start, seats_in, windows_in}
use Rattle.dayfile.specs.Table.{first_of, line13, read_lines, marker_lines, sheet_lines, buffer_lines, mark_lines}
use Rattle.dayfile.specs.Table.{moves_room}
use Rattle.dayfile.specs.Outcome.{answer, read_file, NoneHolds}
use Rattle.dayfile.proofs.Answers.{answered}
use Rattle.dayfile.proofs.Lines.{none-holds, none-first-of, on-after, room-enough}
use Rattle.dayfile.specs.Layout.{marked_sheet}
use Rattle.lawful.proofs.Accepted.{entry-sheet, lawful-lines}

-- a sheet stands in an entry of kind 4
sheet-entry : (o : Option ℕ) (g : ℕ → Grid) (s : Grid) → and_then o (λ e. Some (g e)) ≡ Some s → (e : ℕ) × (o ≡ Some e)
sheet-entry (Some e) g s h = (e, refl)
sheet-entry None g s h = absurd (let z : ◌≡◌ {A = ℕ} 0 1 = cc in omega arith)

module _ (f : List ℕ) (b : Book) (s : Grid) (read : read_file f ≡ answer (b, Some s)) where
  says : (first_of (read_lines f) ≡ None) × ◌≡◌ {A = Book × Option Grid} (book_of f, sheet_of f) (b, Some s)
  unfolding read_file
  says = answered (first_of (read_lines f)) (book_of f, sheet_of f) (b, Some s) read

  pub book-is : book_of f ≡ b
  book-is = ap (λ (p : Book × Option Grid). p.0) says.1

  sheet_is : sheet_of f ≡ Some s
  sheet_is = ap (λ (p : Book × Option Grid). p.1) says.1

  pub sheet-in : marked_sheet f ≡ s
  sheet-in = ap (λ (o : Option Grid). value_or o []) sheet_is

  entry : (e : ℕ) × (entry_of f 4 ≡ Some e)
  unfolding sheet_of
  entry = sheet-entry (entry_of f 4) (λ e. grid_at f (start f e) (seats_in f) (windows_in f)) s sheet_is

  pub sheet-shape : SheetOf (book_of f) (marked_sheet f)
  sheet-shape = entry-sheet f entry.0 entry.1

  module _ (lawful : Lawful b s) where
    marker-free : NoneHolds (marker_lines f)
    unfolding marker_lines line13
    marker-free =
        let lines = lawful-lines f entry.0 entry.1 (rw (book-is, sheet-in) lawful) in
        (ap (λ (o : Option ℕ). when (not (is_some o)) 0) entry.1, (lines.0, (lines.1, tt)))

    pub sheet-free : first_of (sheet_lines f) ≡ None
    unfolding sheet_lines
    sheet-free = on-after (read_lines f) (marker_lines f) says.0 ∙ none-first-of (marker_lines f) marker-free

    pub none-hold : (room : ℕ) → moves_room ≤ room → NoneHolds (mark_lines f room)
    unfolding mark_lines
    none-hold room long =
        none-holds (mark_lines f room)
        (on-after (sheet_lines f) (buffer_lines room moves_room) sheet-free ∙ room-enough room moves_room long)
