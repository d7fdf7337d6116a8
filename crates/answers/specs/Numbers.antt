-- What crosses to C: each answer in paper 01's numbers and values. A refusal is its number and its offset, both 0 where there is none; at a
-- refusal every other number is 0.
use Rattle.std.specs.Prelude.{Bool, true, false, not, ℕ, eqb}
use Rattle.dayfile.specs.Outcome.{Outcome, turned_away, answer}
use Rattle.dayfile.specs.Memory.{written}
use Rattle.dayfile.specs.declared.Check as Check
use Rattle.dayfile.specs.declared.Day.{Day}
use Rattle.dayfile.specs.declared.Reading.{Reading}
use Rattle.dayfile.specs.declared.Written.{Written}
use Rattle.answers.specs.declared.Marking.{Marking}
use Rattle.answers.specs.declared.Numbers.{Numbers}
use Rattle.answers.specs.Answers.{told, numbers_of}
use Rattle.answers.specs.declared.CreditsBook.{CreditsBook}
use Rattle.answers.specs.declared.ReadResult.{ReadResult}
use Rattle.answers.specs.declared.MarkResult.{MarkResult}
use Rattle.answers.specs.declared.WriteResult.{WriteResult}

-- ---- books

abbrev pub flag : Bool → ℕ
flag true = 1
flag false = 0

-- a day, as the flat struct of C
abbrev pub book_from : Day → CreditsBook
book_from d =
    record {
      seats = d.book.seats;
      windows = d.book.windows;
      classes = d.book.classes;
      supplies = d.book.supplies;
      caps = d.caps;
      has_sheet = flag d.has_sheet;
      sheet = d.sheet;
      has_first = flag d.book.has_first;
      first = d.book.first;
      has_balances = flag d.book.has_balances;
      balances = d.book.balances;
      has_weights = flag d.book.has_weights;
      weights = d.book.weights;
    }

-- a book that was handed in; its sheet counts unless has_sheet is 0, its first seat unless has_first is 0, its balances unless has_balances
-- is 0, and its weights unless has_weights is 0
abbrev pub day_from : CreditsBook → Day
day_from c =
    record {
      book = record {
        seats = c.seats;
        windows = c.windows;
        classes = c.classes;
        supplies = c.supplies;
        has_first = not (eqb c.has_first 0);
        first = c.first;
        has_balances = not (eqb c.has_balances 0);
        balances = c.balances;
        has_weights = not (eqb c.has_weights 0);
        weights = c.weights;
      };
      caps = c.caps;
      has_sheet = not (eqb c.has_sheet 0);
      sheet = c.sheet;
    }

-- ---- answers in numbers

-- a reading: the refusal, and the day
abbrev pub read_as : Check.Check → Day → ReadResult
read_as (Check.TheVariants.Refused n p) d = record { refusal = n; offset = p; book = book_from d }
read_as Check.TheVariants.Sound d = record { refusal = 0; offset = 0; book = book_from d }

abbrev pub read_numbers : Reading → ReadResult
read_numbers r = read_as r.check r.day

-- what a call wrote: its length
abbrev pub length_as : Outcome ℕ → WriteResult
length_as (turned_away q) = record { refusal = q.number; offset = q.at; length = 0 }
length_as (answer n) = record { refusal = 0; offset = 0; length = n }

abbrev pub write_numbers : Written → WriteResult
write_numbers w = length_as (written w)

-- the numbers of the marker's answer
abbrev pub mark_as : Numbers → MarkResult
mark_as n =
    record { refusal = n.refusal; offset = n.offset; mark = n.mark; window = n.window; seat = n.seat; moves = n.moves }

abbrev pub mark_numbers : Marking → MarkResult
mark_numbers m = mark_as (numbers_of (told m))
