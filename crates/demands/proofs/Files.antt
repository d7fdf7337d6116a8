-- Files written read back the same, and an accepted file written again has the same bytes. Assumes nothing.
use mathlib.Core.Path.{◌≡◌, refl, sym, ap, ap₂, ◌∙◌}
use mathlib.Core.List.{List, ◌++◌}
use Rattle.std.specs.Prelude.{None}
use Prim.Native.Nat.{ℕ, ◌≤◌}
use native.Mathlib.Omega.{arith}
use lib.ListN.{length, take, drop}
use lib.Seq.{take_at}
use Rattle.dayfile.specs.Layout.{Bytes, book_of, sheet_of}
use Rattle.dayfile.specs.File.{file_of}
use Rattle.dayfile.specs.Table.{first_of, read_lines}
use Rattle.dayfile.specs.Table.{contents_lines, length_lines, value_lines, option_lines, buffer_lines, write_lines}
use Rattle.dayfile.specs.Outcome.{answer, read_file, NoneHolds}
use Rattle.dayfile.specs.Memory.{day_book, day_sheet, file_with, file_in, front, written, Reads, WritesDay}
use Rattle.dayfile.specs.declared.Day.{Day}
use Rattle.dayfile.specs.declared.Reading.{Reading}
use Rattle.dayfile.specs.declared.Written.{Written}
use Rattle.dayfile.specs.declared.Written.TheVariants.{Refused, Whole}
use Rattle.dayfile.proofs.Answers.{answer-none, tells-answer}
use Rattle.dayfile.proofs.Lines.{none-first-of, none-holds, none-parts, on-after, room-enough}
use Rattle.dayfile.proofs.Readings.{read-day}
use Rattle.dayfile.proofs.Theorems.{accepted-exactly, read-writes-back, memory-reads-back}

-- the front of a buffer
pub taken : (file before : List ℕ) (n : ℕ) → n ≡ length file → take n (front file before) ≡ file
unfolding front
taken file before n e = take_at file (drop (length file) before) n (sym e)

pub reads_back : (d : Day) (before end : List ℕ) (n : ℕ) → WritesDay d before end (Whole n) →
    read_file (take n end) ≡ answer (day_book d, day_sheet d)
reads_back d before end n h =
    let told = answer-none h n refl in
    let file : take n end ≡ file_in d = ap (take n) told.1.1 ∙ taken (file_in d) before n told.1.0 in
    ap read_file file ∙ memory-reads-back d (length before) told.0

-- where the reader's lines are free, so are the writer's on the same file, if the buffer is long enough
write-free : (f : List ℕ) (room : ℕ) → first_of (read_lines f) ≡ None → length f ≤ room → first_of (write_lines f room) ≡ None
unfolding read_lines length_lines write_lines
write-free f room free long =
    let rest = (none-parts (contents_lines f) (length_lines f ++ (value_lines f ++ option_lines f)) free).1 in
    let lengths = none-holds (length_lines f) (none-parts (length_lines f) (value_lines f ++ option_lines f) rest).0 in
    let values = none-parts (value_lines f) (option_lines f) (none-parts (length_lines f) (value_lines f ++ option_lines f) rest).1 in
    rw (lengths.0, lengths.1.0)
    (on-after (value_lines f) (option_lines f ++ buffer_lines room (length f)) values.0
    ∙ on-after (option_lines f) (buffer_lines room (length f)) values.1 ∙ room-enough room (length f) long)

-- a call that answers a length wrote a whole file
pub whole_of : (r : Written) (n : ℕ) → written r ≡ answer n → r ≡ Whole n
whole_of (Whole m) n e = ap Whole cc
whole_of (Refused m p) n e = absurd (let z : ◌≡◌ {A = ℕ} 0 1 = cc in omega arith)

module _ (f : List ℕ) (bytes : Bytes f) (accepted : NoneHolds (read_lines f)) (r : Reading) (h : Reads f r) where
  free : first_of (read_lines f) ≡ None
  free = none-first-of (read_lines f) accepted

  -- what is in memory is what stands in the file
  the-file : file_in r.day ≡ f
  unfolding file_with
  the-file =
      let held = read-day f r h free in
      ap₂ file_of held.0 held.1 ∙ read-writes-back f (book_of f) (sheet_of f) bytes ((accepted-exactly f).1 accepted)

  pub same_bytes : (before end : List ℕ) (w : Written) → length f ≤ length before → WritesDay r.day before end w →
      (w ≡ Whole (length f)) × (end ≡ front f before)
  same_bytes before end w long writes =
      let none_here : first_of (write_lines (file_in r.day) (length before)) ≡ None =
      rw the-file (write-free f (length before) free long) in
      let gives = tells-answer writes none_here in (
        whole_of w (length f) (gives.1.0 ∙ ap answer (gives.1.1.0 ∙ ap length the-file)),
        gives.1.1.1 ∙ ap (λ (file : List ℕ). front file before) the-file,
      )
