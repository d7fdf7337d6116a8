-- What the marker's contract `Marks` says in other words, and demand 3 for the marker, with the definitions of specs/ alone.
use mathlib.Core.Path.{◌≡◌, refl, sym, ap, ap₂, ◌∙◌}
use mathlib.Core.Bool.{true, true≢false}
use mathlib.Core.Logic.{inl, inr, ⊎_elim, ◌↔◌}
use mathlib.Core.List.{List}
use Rattle.std.specs.Prelude.{Option, None, Some}
use Prim.Native.Nat.{ℕ}
use native.Mathlib.Omega.{arith}
use lib.ListN.{length}
use Rattle.fairness.specs.Instance.{Feasible}
use Rattle.fairness.specs.Leximin.{Level, NoHigher, Equal, Higher, profile}
use Rattle.fairness.specs.Exchange.{play_all, PlaysOut}
use Rattle.model.specs.Book.{SheetOf, Lawful, cell, instance_of}
use Rattle.model.specs.Fair.{profile_of, HighestList}
use Rattle.model.specs.Marks.{Mark, wasteful, improvable, tied, settled, Result, mark_of, result_of, passes}
use Rattle.model.proofs.Theorems as model
use Rattle.dayfile.specs.Layout.{book_of}
use Rattle.dayfile.specs.Table.{Refusal, first_of, read_lines, marker_lines, sheet_lines, buffer_lines, mark_lines, moves_room}
use Rattle.dayfile.specs.Outcome.{answer, unless, NoneHolds}
use Rattle.dayfile.proofs.Answers.{defined, tells-refusal, tells-answer}
use Rattle.dayfile.proofs.Lines.{none-holds, none-parts, none-first-of}
use Rattle.answers.specs.declared.Marking.{Marking}
use Rattle.answers.specs.declared.Marking.TheVariants.{Improvable}
use Rattle.answers.specs.Answers.{told}
use Rattle.marker.specs.Marking.{marked_sheet, mark_file, results, moves_in, BufferAfter, Passing, Marks}
use Rattle.lawful.proofs.Accepted.{accepted-sheet, accepted-lawful}
use Rattle.marker.proofs.Decode.{moves-in-front}

-- which marks pass
passing-marks : (m : Mark) → Passing (answer (result_of m)) ↔ (passes m ≡ true)
passing-marks (wasteful j i) = (λ p. absurd (⊎_elim (λ e. omega arith) (λ e. omega arith) p), λ e. absurd (true≢false (sym e)))
passing-marks (improvable f) = (λ p. absurd (⊎_elim (λ e. omega arith) (λ e. omega arith) p), λ e. absurd (true≢false (sym e)))
passing-marks (tied f) = (λ p. refl, λ e. inl refl)
passing-marks settled = (λ p. refl, λ e. inr refl)

-- equal answers have equal results
same-result : (x y : Result) → answer x ≡ answer y → x ≡ y
same-result x y e = cc

-- the result of a mark, or the refusal
results-of : (o : Option Refusal) (m : Mark) → results (unless o m) ≡ unless o (result_of m)
results-of None m = refl
results-of (Some q) m = refl

module _ (file before after : List ℕ) (r : Marking) where
  -- the contract in one line: the marker says what the rules say of the file
  pub marks-says : Marks file before after r → told r ≡ results (mark_file file (length before))
  unfolding mark_file
  marks-says marks = go (first_of (mark_lines file (length before))) refl
    where
      go : (o : Option Refusal) → first_of (mark_lines file (length before)) ≡ o →
          told r ≡ results (unless o (mark_of (book_of file) (marked_sheet file)))
      go (Some q) e = (tells-refusal marks q e).0
      go None e = let x = tells-answer marks e in x.1.0 ∙ ap answer x.1.1.0

  pub marks-buffer : Marks file before after r →
      BufferAfter (book_of file) (marked_sheet file) (mark_file file (length before)) before after
  unfolding mark_file
  marks-buffer marks = go (first_of (mark_lines file (length before))) refl
    where
      go : (o : Option Refusal) → first_of (mark_lines file (length before)) ≡ o →
          BufferAfter (book_of file) (marked_sheet file) (unless o (mark_of (book_of file) (marked_sheet file))) before after
      go (Some q) e = (tells-refusal marks q e).1
      go None e = (tells-answer marks e).1.1.1

  -- and back
  pub says-marks : told r ≡ results (mark_file file (length before)) →
      BufferAfter (book_of file) (marked_sheet file) (mark_file file (length before)) before after → Marks file before after r
  unfolding mark_file
  says-marks says buffer =
      defined (result_of (mark_of (book_of file) (marked_sheet file)))
      (says ∙ results-of (first_of (mark_lines file (length before))) (mark_of (book_of file) (marked_sheet file)))
      (λ q e. rw e at buffer) (λ e. (refl, rw e at buffer))

module _ (file before after : List ℕ) (r : Marking) (marks : Marks file before after r) where
  module _ (none-hold : NoneHolds (mark_lines file (length before))) where
    passed : first_of (mark_lines file (length before)) ≡ None
    passed = none-first-of (mark_lines file (length before)) none-hold

    right : (x : Result) × ((told r ≡ answer x) × ((x ≡ result_of (mark_of (book_of file) (marked_sheet file)))
        × BufferAfter (book_of file) (marked_sheet file) (answer (mark_of (book_of file) (marked_sheet file))) before after))
    right = marks.gives none-hold

    -- where no line holds the answer is the mark that the rules give
    pub answers : told r ≡ answer (result_of (mark_of (book_of file) (marked_sheet file)))
    answers = right.1.0 ∙ ap answer right.1.1.0

    -- ---- demand 3, where no line holds: the sheet is lawful and the buffer long enough

    marker-lines : NoneHolds (marker_lines file)
    unfolding mark_lines sheet_lines
    marker-lines =
        let free = (none-parts (sheet_lines file) (buffer_lines (length before) moves_room) passed).0 in
        none-holds (marker_lines file) (none-parts (read_lines file) (marker_lines file) free).1

    pub a_sheet : SheetOf (book_of file) (marked_sheet file)
    a_sheet = accepted-sheet file marker-lines

    pub lawful : Lawful (book_of file) (marked_sheet file)
    lawful = accepted-lawful file marker-lines

    -- the sheet passes exactly when its list equals the highest list among all lawful sheets of the book
    pub passes_exactly : (xs : List Level) → HighestList (book_of file) xs →
        Passing (told r) ↔ Equal NoHigher (profile_of (book_of file) (marked_sheet file)) xs
    passes_exactly xs h =
        let by-mark = passing-marks (mark_of (book_of file) (marked_sheet file)) in
        let by-list = model.passes-equal (book_of file) (marked_sheet file) a_sheet lawful xs h in
        (λ p. by-list.0 (by-mark.0 (rw answers at p)), λ e. rw answers (by-mark.1 (by-list.1 e)))

    -- the moves of mark 2, decoded from the buffer's front and played one after another from the sheet handed in, are each possible at
    -- their turn and end in a lawful sheet with a higher list
    pub path-plays : (n : ℕ) → r ≡ Improvable n →
        PlaysOut (instance_of (book_of file)) (cell (marked_sheet file)) (moves_in n after)
        × Feasible (instance_of (book_of file)) (play_all (cell (marked_sheet file)) (moves_in n after))
        × Higher NoHigher (profile_of (book_of file) (marked_sheet file))
        (profile (instance_of (book_of file)) (play_all (cell (marked_sheet file)) (moves_in n after)))
    path-plays n e =
        go (mark_of (book_of file) (marked_sheet file)) refl (ap told (sym e) ∙ answers)
        right.1.1.1
      where
        go : (m : Mark) → mark_of (book_of file) (marked_sheet file) ≡ m →
            answer (record { mark = 2; window = 0; seat = 0; moves = n }) ≡ answer (result_of m) →
            BufferAfter (book_of file) (marked_sheet file) (answer m) before after →
            PlaysOut (instance_of (book_of file)) (cell (marked_sheet file)) (moves_in n after)
            × Feasible (instance_of (book_of file)) (play_all (cell (marked_sheet file)) (moves_in n after))
            × Higher NoHigher (profile_of (book_of file) (marked_sheet file))
            (profile (instance_of (book_of file)) (play_all (cell (marked_sheet file)) (moves_in n after)))
        go (wasteful j i) is same buffer = absurd (omega (arith, ap (λ (x : Result). x.mark) (same-result _ _ same)))
        go (improvable f) is same buffer =
            let counted : n ≡ length buffer.moves = ap (λ (x : Result). x.moves) (same-result _ _ same) ∙ sym buffer.count in
            let decoded : moves_in n after ≡ buffer.moves =
            ap₂ moves_in counted buffer.bytes ∙ moves-in-front buffer.moves before in
            rw decoded (model.improvable-plays (book_of file) (marked_sheet file) a_sheet lawful f is buffer.moves buffer.path)
        go (tied f) is same buffer = absurd (omega (arith, ap (λ (x : Result). x.mark) (same-result _ _ same)))
        go settled is same buffer = absurd (omega (arith, ap (λ (x : Result). x.mark) (same-result _ _ same)))
