-- What the steps of the call show, from what is read, granted and stored. Assumes nothing.
use mathlib.Core.Path.{◌≡◌, refl, sym, ap, ap₂, subst, ◌∙◌}
use mathlib.Core.Bool.{true}
use mathlib.Core.List.{List}
use Rattle.std.specs.Prelude.{Option, None, Some}
use Prim.Native.Nat.{ℕ, ◌*◌, ◌≤◌, ◌<◌}
use native.Mathlib.Omega.{arith}
use borrow.Author.Tests.{eq-eqb, ne_eqb}
use lib.ListN.{length, get_or}
use Rattle.fairness.specs.Wanted.{Grants}
use Rattle.fairness.proofs.WantedTotals.{same-cells}
use Rattle.model.specs.Book.{Book, Grid, cell, seats, windows, instance_of}
use Rattle.sheet.specs.Sheets.{grid_of}
use Rattle.dayfile.specs.declared.Book as Memory
use Rattle.dayfile.specs.declared.Reading.{Reading}
use Rattle.dayfile.specs.File.{flat}
use Rattle.dayfile.specs.Layout.{book_of, seats_in, windows_in}
use Rattle.dayfile.specs.Table.{Refusal, refuse, first_of, line21, read_lines, row_lines, buffer_lines, body_length, fulfil_lines}
use Rattle.dayfile.specs.Memory.{cells_in, book_in, front, Reads}
use Rattle.dayfile.proofs.Lines.{stop-in, on-after, none-parts, room-none}
use Rattle.dayfile.proofs.Accepted.{seats_are, windows_are}
use Rattle.dayfile.proofs.Answers.{defined-refusal, defined-answer}
use Rattle.dayfile.proofs.Grids.{sized-flat-length}
use Rattle.dayfile.proofs.Held.{seats-in, windows-in, sheet-shaped}
use Rattle.dayfile.proofs.Readings.{read-day}
use Rattle.dayfile.proofs.Used.{cell_in}
use Rattle.store.specs.Stores.{Room, Put}
use Rattle.store.proofs.Storing.{put-end, put_front}
use Rattle.wants.specs.Wanted.{want, Gives, Overasks}
use Rattle.wants.proofs.Theorems.{grants-same, overasks-same, never_both}
use Rattle.reply.specs.declared.Reply.TheVariants.{Refused, Sheet, Group}
use Rattle.fulfil.specs.Fulfilling.{a_sheet, a_group, Given, Fulfils}
use Rattle.fulfil.specs.Steps.{lent_lines}

-- ---- the row and the buffer

-- line 21, by the number of seats that was read
pub row-right : (f row : List ℕ) (n : ℕ) → n ≡ seats_in f → length row ≡ 4 * n → None ≡ line21 f row
unfolding line21
row-right f row n e l = rw (eq-eqb (length row) (4 * seats_in f) (omega arith)) refl

pub row-wrong : (f row : List ℕ) (n : ℕ) → n ≡ seats_in f → (length row ≡ 4 * n → ⊥) → Some 0 ≡ line21 f row
unfolding line21
row-wrong f row n e l = rw (ne_eqb (length row) (4 * seats_in f) (λ k. l (omega arith))) refl

module _ (f row : List ℕ) (room : ℕ) where
  pub lent_row : (p : ℕ) → line21 f row ≡ Some p → Some (refuse 21 p) ≡ first_of (lent_lines f row room)
  unfolding row_lines
  lent_row p e = rw e refl

  pub lent-buffer : line21 f row ≡ None → (need : ℕ) → need ≡ body_length f → {x : Option Refusal} → x ≡ first_of (buffer_lines room need) →
      x ≡ first_of (lent_lines f row room)
  unfolding row_lines
  lent-buffer passed need need-is e = rw (passed, ← need-is) e

-- no line of the two holds, so the buffer is long enough
pub lent-room : (f row : List ℕ) (room : ℕ) → first_of (lent_lines f row room) ≡ None → body_length f ≤ room
lent-room f row room e = room-none room (body_length f) (none-parts (row_lines f row) (buffer_lines room (body_length f)) e).1

-- ---- a grid in memory that grants the wants of a book in memory is a sheet that gives them

module _ (m : Memory.Book) (caps grid : Grid) (wants : ℕ → ℕ) where
  gives : Grants (instance_of (book_in m caps)) wants (cell grid) → Gives (book_in m caps) wants (cells_in m grid)
  unfolding instance_of
  gives h =
      record {
        a_sheet = sheet-shaped m caps true grid;
        grants = same-cells (instance_of (book_in m caps)) wants (cell grid) (cell (cells_in m grid))
            (λ i j li lj. sym (cell_in m grid i j (omega (arith, seats-in m caps)) (omega (arith, windows-in m caps)))) h;
      }

-- ---- the replies

-- a file, a row and a buffer of which no line holds: what was read, its caps put into an array of arrays, and the wants of the row
pub record Asked (f row old : List ℕ) : Type 0 where
  pub reading : Reading
  pub reads : Reads f reading
  pub free : first_of (read_lines f) ≡ None
  pub lent : first_of (lent_lines f row (length old)) ≡ None
  pub caps : Grid
  pub caps_are : caps ≡ grid_of reading.day.caps
  pub wants : List ℕ
  pub wants_are : (i : ℕ) → i < reading.day.book.seats → get_or wants i 0 ≡ want row i

module _ (f row old : List ℕ) where
  -- a line of the reader's holds
  pub fulfil-refused : (n p : ℕ) → first_of (read_lines f) ≡ Some (refuse n p) → Fulfils f row old old (Refused n p)
  unfolding fulfil_lines
  fulfil-refused n p e = defined-refusal (refuse n p) (stop-in (read_lines f) _ (refuse n p) e) refl refl

  -- line 21 does, or line 16
  pub lent-refused : first_of (read_lines f) ≡ None → (n p : ℕ) → first_of (lent_lines f row (length old)) ≡ Some (refuse n p) →
      Fulfils f row old old (Refused n p)
  unfolding fulfil_lines
  lent-refused free n p e = defined-refusal (refuse n p) (on-after (read_lines f) (lent_lines f row (length old)) free ∙ e) refl refl

  module _ (q : Asked f row old) where
    abbrev m : Memory.Book
    m = q.reading.day.book

    abbrev b : Book
    b = book_in m q.caps

    abbrev w : ℕ → ℕ
    w i = get_or q.wants i 0

    same : b ≡ book_of f
    same = ap (book_in m) q.caps_are ∙ (read-day f q.reading q.reads q.free).0

    passed : first_of (fulfil_lines f row (length old)) ≡ None
    unfolding fulfil_lines
    passed = on-after (read_lines f) (lent_lines f row (length old)) q.free ∙ q.lent

    wants-same : (i : ℕ) → i < (instance_of b).seats → w i ≡ want row i
    unfolding instance_of
    wants-same i l = q.wants_are i (omega (arith, seats-in m q.caps))

    pub fulfil-group : (g : ℕ) → Overasks (instance_of b) w g → Fulfils f row old old (Group g)
    fulfil-group g o =
        let here : Overasks (instance_of (book_of f)) (want row) g =
        subst (λ (x : Book). Overasks (instance_of x) (want row) g) same (overasks-same (instance_of b) _ (want row) wants-same g o) in
        defined-answer (a_group g) passed refl ((here, refl), (λ x. absurd x, λ s. never_both (book_of f) (want row) s g here))

    module _ (grid : Grid) where
      -- the length of the sheet body
      long : 2 * length (flat (cells_in m grid)) ≡ body_length f
      long =
          let seats : m.seats ≡ seats_in f = sym (seats-in m q.caps) ∙ ap seats same ∙ seats_are f in
          let windows : m.windows ≡ windows_in f = sym (windows-in m q.caps) ∙ ap windows same ∙ windows_are f in
          ap (λ (x : ℕ). 2 * x) (sized-flat-length m.seats m.windows grid) ∙ ap₂ (λ (x y : ℕ). 2 * (x * y)) seats windows

      pub body-room : Room old 0 (flat (cells_in m grid))
      body-room = record { fits = omega (arith, long, lent-room f row (length old) q.lent) }

      pub fulfil-sheet : Grants (instance_of b) w (cell grid) → (n : ℕ) (new : List ℕ) → Put old 0 (flat (cells_in m grid)) n new →
          Fulfils f row old new (Sheet n)
      unfolding front
      fulfil-sheet h n new put =
          let granted = grants-same (instance_of b) _ (want row) wants-same (cell grid) h in
          let here : Gives (book_of f) (want row) (cells_in m grid) =
          subst (λ (x : Book). Gives x (want row) (cells_in m grid)) same (gives m q.caps grid (want row) granted) in
          let given : Given (book_of f) (want row) old new = record {
            sheet = cells_in m grid;
            gives = here;
            bytes = put_front put (omega (arith, long, lent-room f row (length old) q.lent));
          } in
          defined-answer (a_sheet n) passed refl
          ((omega (arith, put-end put, long), given), (λ x. (cells_in m grid, here), λ x. tt))
