-- What a call answers: a refusal, or what it gives; what a file says; and the one shape of every public call's contract.
use Rattle.std.specs.Prelude.{List, [], ◌∷◌, ◌++◌, ◌↔◌, ◌≡◌, ℕ}
use Rattle.std.specs.Prelude.{Option, None, Some}
use Rattle.model.specs.Book.{Book, Grid}
use Rattle.dayfile.specs.Layout.{book_of, sheet_of}
use Rattle.dayfile.specs.Table.{Line, Refusal, line, first_of, read_lines}

pub data Outcome (A : Type 0) : Type 0 where
  turned_away : Refusal → Outcome A
  answer : A → Outcome A

abbrev pub unless : {A : Type 0} → Option Refusal → A → Outcome A
unless (Some q) x = turned_away q
unless None x = answer x

-- down the lines: the refusal of the first that holds, and where none does the answer
abbrev pub outcome : {A : Type 0} → List Line → A → Outcome A
outcome ls x = unless (first_of ls) x

-- what a file says: a refusal, or a book, and a sheet or its absence
unfoldable pub read_file : List ℕ → Outcome (Book × Option Grid)
read_file f = outcome (read_lines f) (book_of f, sheet_of f)

-- no line holds
abbrev pub NoneHolds : List Line → Type 0
NoneHolds [] = Unit {0}
NoneHolds (l ∷ ls) = (l.place ≡ None) × NoneHolds ls

-- of the lines the first that holds is the one with the refusal's number, and it gives the refusal's offset
pub record FirstHolds (ls : List Line) (q : Refusal) : Type 0 where
  pub before : List Line
  pub after : List Line
  pub split : ls ≡ before ++ (line q.number (Some q.at) ∷ after)
  pub passed : NoneHolds before

-- the contract of a call that goes down these lines of the table, answers o and leaves `after` in its buffer: it refuses exactly with the
-- first line that holds, and then the buffer is as it was; where no line holds it gives an answer that is right
pub record Defined {A : Type 0} (lines : List Line) (before after : List ℕ) (o : Outcome A) (Right : A → Type 0) : Type 0 where
  pub refuses : (q : Refusal) → (o ≡ turned_away q) ↔ FirstHolds lines q
  pub unchanged : (q : Refusal) → o ≡ turned_away q → after ≡ before
  pub gives : NoneHolds lines → (x : A) × ((o ≡ answer x) × Right x)
