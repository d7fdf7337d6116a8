-- From what the marker says and writes to the listing's contract. Assumes nothing.
use mathlib.Core.Path.{◌≡◌, refl, sym, ap, ◌∙◌}
use mathlib.Core.List.{List, [], ◌++◌}
use Rattle.std.specs.Prelude.{None}
use Prim.Native.Nat.{ℕ, ◌≤◌, ◌<◌}
use native.Mathlib.Omega.{arith}
use lib.ListN.{length}
use Rattle.fairness.specs.Exchange.{Move}
use Rattle.model.specs.Search.{Found}
use Rattle.model.specs.Marks.{Mark, wasteful, improvable, tied, settled, Result, mark_of, result_of, move_bytes}
use Rattle.model.proofs.Marks.{within-book}
use Rattle.dayfile.specs.Bounds.{Fit}
use Rattle.dayfile.specs.Layout.{book_of}
use Rattle.dayfile.specs.Table.{refuse, first_of, read_lines, marker_lines, sheet_lines, buffer_lines, mark_lines, moves_room}
use Rattle.dayfile.specs.Outcome.{Outcome, turned_away, answer}
use Rattle.dayfile.specs.Memory.{front, cells_in, day_book, Reads}
use Rattle.dayfile.specs.declared.Reading.{Reading}
use Rattle.dayfile.specs.declared.Written as Written
use Rattle.dayfile.proofs.Answers.{answered, defined-refusal, defined-answer}
use Rattle.dayfile.proofs.Lines.{none-parts, room-short, room-enough}
use Rattle.dayfile.proofs.Sound.{sound}
use Rattle.dayfile.proofs.Accepted.{fits}
use Rattle.sheet.specs.Sheets.{grid_of}
use Rattle.answers.specs.declared.Marking.{Marking}
use Rattle.answers.specs.Answers.{told}
use Rattle.marker.specs.Marking.{marked_sheet, mark_file, results, PathWritten, BufferAfter, Marks}
use Rattle.marker.proofs.Theorems.{marks-says, marks-buffer}
use Rattle.lawful.proofs.Readings.{book-read, sheet-read}
use Rattle.lines.specs.Lines.{refusal_line, Printed}
use Rattle.listing.specs.Listing.{listing_of, listing_max}
use Rattle.listing.specs.Calls.{MovesOf, Listed, Lists}

-- ---- the output buffer is long enough, or not

pub refused-short : (file before : List ℕ) → length before < listing_max →
    Lists file before before (Written.TheVariants.Refused 16 listing_max)
refused-short file before l = defined-refusal (refuse 16 listing_max) (room-short (length before) listing_max l) refl refl

pub long-enough : (file before after : List ℕ) (n : ℕ) → listing_max ≤ length before → Listed file before after n →
    Lists file before after (Written.TheVariants.Whole n)
long-enough file before after n l h = defined-answer n (room-enough (length before) listing_max l) refl h

-- ---- the text

module _ (file moves written : List ℕ) (r : Marking) (room : length moves ≡ moves_room) (marks : Marks file moves written r) where
  says : told r ≡ results (mark_file file moves_room)
  says = rw room at (marks-says file moves written r marks)

  kept : BufferAfter (book_of file) (marked_sheet file) (mark_file file moves_room) moves written
  kept = rw room at (marks-buffer file moves written r marks)

  -- the file is refused
  pub refused-text : (n p : ℕ) → told r ≡ turned_away (refuse n p) → (before after : List ℕ) (size : ℕ) →
      Printed before (refusal_line n p) after size → Listed file before after size
  refused-text n p e before after size printed = go (mark_file file moves_room) refl (sym e ∙ says)
    where
      go : (o : Outcome Mark) → mark_file file moves_room ≡ o → turned_away (refuse n p) ≡ results o → Listed file before after size
      go (turned_away q) is same =
          let q-is : q ≡ refuse n p = cc in
          let out-is : mark_file file moves_room ≡ turned_away (refuse n p) = is ∙ ap turned_away q-is in
          record { moves = []; the_moves = rw out-is refl; printed = rw out-is printed }
      go (answer m) is same = absurd (let z : ◌≡◌ {A = ℕ} 0 1 = cc in omega arith)

  -- ---- the sheet is marked

  module _ (x : Result) (said : told r ≡ answer x) where
    -- the mark whose result was told
    record Told : Type 0 where
      pub mark : Mark
      pub is : mark_file file moves_room ≡ answer mark
      pub result : x ≡ result_of mark

    told-mark : Told
    told-mark = go (mark_file file moves_room) refl (sym said ∙ says)
      where
        go : (o : Outcome Mark) → mark_file file moves_room ≡ o → answer x ≡ results o → Told
        go (turned_away q) is same = absurd (let z : ◌≡◌ {A = ℕ} 0 1 = cc in omega arith)
        go (answer m) is same = record { mark = m; is = is; result = cc }

    -- no line of the marker's holds, and the mark is that of the rules
    lines-passed : (first_of (mark_lines file moves_room) ≡ None) × (mark_of (book_of file) (marked_sheet file) ≡ told-mark.mark)
    unfolding mark_file
    lines-passed = answered (first_of (mark_lines file moves_room)) (mark_of (book_of file) (marked_sheet file)) told-mark.mark told-mark.is

    passed : first_of (sheet_lines file) ≡ None
    unfolding mark_lines
    passed = (none-parts (sheet_lines file) (buffer_lines moves_room moves_room) lines-passed.0).0

    fit : Fit (book_of file)
    unfolding sheet_lines
    fit = fits file (sound file (none-parts (read_lines file) (marker_lines file) passed).0)

    pub few : x.moves ≤ 31
    few =
        let small = within-book (book_of file) (marked_sheet file) in
        let result : x ≡ result_of (mark_of (book_of file) (marked_sheet file)) = told-mark.result ∙ ap result_of (sym lines-passed.1) in
        rw result (omega (arith, small.moves, fit.seats_high))

    module _ (before after : List ℕ) (n : ℕ)
        (printed : (ms : List Move) (rest : List ℕ) → written ≡ move_bytes ms ++ rest → x.moves ≡ length ms →
        Printed before (listing_of (book_of file) (marked_sheet file) x ms) after n) where
      -- with the moves of a mark
      marked-text : (m : Mark) → mark_file file moves_room ≡ answer m → x ≡ result_of m → (ms : List Move) (rest : List ℕ) →
          written ≡ move_bytes ms ++ rest → x.moves ≡ length ms → MovesOf (book_of file) (marked_sheet file) (answer m) ms →
          Listed file before after n
      marked-text m is e ms rest stand count the_moves =
          record {
            moves = ms;
            the_moves = rw is the_moves;
            printed = rw (is, ← e) (printed ms rest stand count);
          }

      no-moves : written ≡ move_bytes [] ++ written
      unfolding move_bytes
      no-moves = refl

      path-text : (m : Mark) (f : Found) → mark_file file moves_room ≡ answer m → x ≡ result_of m → x.moves ≡ f.moves →
          (path : PathWritten (book_of file) (marked_sheet file) f moves written) →
          MovesOf (book_of file) (marked_sheet file) (answer m) path.moves → Listed file before after n
      unfolding front
      path-text m f is e count path the_moves =
          marked-text m is e path.moves _ path.bytes (count ∙ sym path.count) the_moves

      marked-listed : Listed file before after n
      marked-listed = go told-mark.mark told-mark.is told-mark.result (rw told-mark.is at kept)
        where
          moves_of : (m : Mark) → x ≡ result_of m → x.moves ≡ (result_of m).moves
          moves_of m e = ap (λ (y : Result). y.moves) e

          go : (m : Mark) → mark_file file moves_room ≡ answer m → x ≡ result_of m →
              BufferAfter (book_of file) (marked_sheet file) (answer m) moves written → Listed file before after n
          go (wasteful j i) is e kept' = marked-text (wasteful j i) is e [] written no-moves (moves_of (wasteful j i) e) refl
          go (improvable f) is e kept' =
              path-text (improvable f) f is e (moves_of (improvable f) e) kept' (kept'.path, kept'.count)
          go (tied f) is e kept' = path-text (tied f) f is e (moves_of (tied f) e) kept' (kept'.path, kept'.count)
          go settled is e kept' = marked-text settled is e [] written no-moves (moves_of settled e) refl

    -- what was read of the file is its book and its sheet
    module _ (y : Reading) (reads : Reads file y) where
      pub fits-here : Fit (day_book y.day)
      fits-here = rw (book-read file y reads passed) fit

      pub day-listed : (before after : List ℕ) (n : ℕ) →
          ((ms : List Move) (rest : List ℕ) → written ≡ move_bytes ms ++ rest → x.moves ≡ length ms →
          Printed before (listing_of (day_book y.day) (cells_in y.day.book (grid_of y.day.sheet)) x ms) after n) →
          Listed file before after n
      day-listed before after n printed =
          marked-listed before after n (λ ms rest stand count.
          rw (book-read file y reads passed, sheet-read file y reads passed) at (printed ms rest stand count))
