-- What the marker answers for a file and an output buffer, and what the buffer holds afterwards.
use Rattle.std.specs.Prelude.{◌≡◌, List, [], ◌∷◌, ◌⊎◌, ℕ, zero, suc, ◌-◌, length, get_or, drop}
use Rattle.fairness.specs.Exchange.{Move}
use Rattle.model.specs.Marks.{Mark, Result, mark_of, result_of}
use Rattle.dayfile.specs.Layout.{book_of}
use Rattle.dayfile.specs.Table.{mark_lines}
use Rattle.dayfile.specs.Outcome.{Outcome, turned_away, answer, outcome, Defined}
pub use Rattle.dayfile.specs.Layout.{marked_sheet}
pub use Rattle.marks.specs.Buffer.{PathWritten, BufferAfter}
use Rattle.answers.specs.declared.Marking.{Marking}
use Rattle.answers.specs.Answers.{told}

-- the mark of a file, or its refusal, where the output buffer has `room` bytes
unfoldable pub mark_file : List ℕ → ℕ → Outcome Mark
mark_file f room = outcome (mark_lines f room) (mark_of (book_of f) (marked_sheet f))

-- the same in numbers
abbrev pub results : Outcome Mark → Outcome Result
results (turned_away q) = turned_away q
results (answer m) = answer (result_of m)

-- ---- the output buffer

-- the first n moves that stand in a buffer
unfoldable pub moves_in : ℕ → List ℕ → List Move
moves_in zero buf = []
moves_in (suc n) buf =
    record { window = get_or buf 0 0 - 1; giver = get_or buf 1 0 - 1; taker = get_or buf 2 0 - 1 } ∷ moves_in n (drop 3 buf)

-- the marker's contract: down its lines, the result of the mark that the rules give, and the buffer holds what goes with that mark
abbrev pub Marks : (file before after : List ℕ) → Marking → Type 0
Marks file before after r =
    Defined (mark_lines file (length before)) before after (told r)
    (λ x. (x ≡ result_of (mark_of (book_of file) (marked_sheet file)))
    × BufferAfter (book_of file) (marked_sheet file) (answer (mark_of (book_of file) (marked_sheet file))) before after)

-- the sheet passes: the answer is mark 3 or 4
abbrev pub Passing : Outcome Result → Type 0
Passing (turned_away q) = ⊥
Passing (answer r) = (r.mark ≡ 3) ⊎ (r.mark ≡ 4)
