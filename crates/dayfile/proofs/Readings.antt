-- The reader's contract: what meets it, and what its answer tells.
-- Assumes nothing.
use mathlib.Core.List.{List, []}
use Rattle.std.specs.Prelude.{None, Some}
use mathlib.Core.Path.{◌≡◌, refl, sym, ap, subst, ◌∙◌}
use Prim.Native.Nat.{ℕ}
use native.Mathlib.Omega.{arith}
use Rattle.model.specs.Book.{Grid}
use Rattle.sheet.specs.Sheets.{grid_of}
use Rattle.dayfile.specs.Bounds.{Fit}
use Rattle.dayfile.specs.Layout.{book_of, sheet_of}
use Rattle.dayfile.specs.Table.{refuse, first_of, read_lines}
use Rattle.dayfile.specs.Outcome.{Defined}
use Rattle.dayfile.specs.Memory.{Holds, book_in, day_book, day_sheet, no_book, refused, reading_as, Reads}
use Rattle.dayfile.specs.declared.Check.{Check}
use Rattle.dayfile.specs.declared.Check.TheVariants.{Refused, Sound}
use Rattle.dayfile.specs.declared.Day.{Day}
use Rattle.dayfile.specs.declared.Reading.{Reading}
use Rattle.dayfile.proofs.Answers.{refuses, passes, defined-refusal, defined-answer, refusal-first, answer-none}
use Rattle.dayfile.proofs.Sound.{sound}
use Rattle.dayfile.proofs.Accepted.{fits}
use Rattle.dayfile.proofs.Theorems.{holds-accepted}

module _ (f : List ℕ) where
  -- a refusal, with a day of zeros
  pub reads-refused : (n p : ℕ) (d : Day) → first_of (read_lines f) ≡ Some (refuse n p) → Holds no_book None d
      → Reads f (record { check = Refused n p; day = d })
  reads-refused n p d e h = record { defined = defined-refusal (refuse n p) e refl refl; zeros = λ q s. h }

  -- the day of the file
  pub reads-day : (d : Day) → first_of (read_lines f) ≡ None → Holds (book_of f) (sheet_of f) d
      → Reads f (record { check = Sound; day = d })
  reads-day d e h =
      record {
        defined = defined-answer d e refl h;
        zeros = λ q s. absurd (let z : ◌≡◌ {A = ℕ} 0 1 = cc in omega arith);
      }

  check-as : (k : Check) (d : Day) → Defined (read_lines f) [] [] (reading_as k d) (Holds (book_of f) (sheet_of f))
      → refused k ≡ first_of (read_lines f)
  check-as (Refused n p) d h = sym (refusal-first h (refuse n p) refl)
  check-as Sound d h = sym (answer-none h d refl).0

  day-as : (k : Check) (d : Day) → Defined (read_lines f) [] [] (reading_as k d) (Holds (book_of f) (sheet_of f))
      → first_of (read_lines f) ≡ None → Holds (book_of f) (sheet_of f) d
  day-as (Refused n p) d h e =
      absurd (let q = refusal-first h (refuse n p) refl in let z : ◌≡◌ {A = ℕ} 0 1 = cc in omega arith)
  day-as Sound d h e = (answer-none h d refl).1

  module _ (r : Reading) (reads : Reads f r) where
    -- its check goes down the reader's lines
    pub read-check : refused r.check ≡ first_of (read_lines f)
    read-check = check-as r.check r.day reads.defined

    pub read-refused : {n p : ℕ} → r.check ≡ Refused n p → first_of (read_lines f) ≡ Some (refuse n p)
    read-refused e = refuses read-check e

    pub read-sound : r.check ≡ Sound → first_of (read_lines f) ≡ None
    read-sound e = passes read-check e

    -- where no line holds its day is that of the file, and its book fits
    pub read-holds : first_of (read_lines f) ≡ None → Holds (book_of f) (sheet_of f) r.day
    read-holds e = day-as r.check r.day reads.defined e

    pub read-day : first_of (read_lines f) ≡ None → (day_book r.day ≡ book_of f) × (day_sheet r.day ≡ sheet_of f)
    read-day e = holds-accepted f r.day e (read-holds e)

    pub read_fits : first_of (read_lines f) ≡ None → Fit (day_book r.day)
    read_fits e = subst Fit (sym (read-day e).0) (fits f (sound f e))

    -- the same of its book where the caps were put into an array of arrays
    module _ (free : first_of (read_lines f) ≡ None) (caps : Grid) (same : caps ≡ grid_of r.day.caps) where
      pub read-book : book_in r.day.book caps ≡ book_of f
      read-book = ap (book_in r.day.book) same ∙ (read-day free).0

      pub read-book-fits : Fit (book_in r.day.book caps)
      read-book-fits = subst Fit (sym read-book) (fits f (sound f free))
