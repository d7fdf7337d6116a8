-- A day in memory: a book, with one grid of caps, 32 rows of 24, and one sheet of the same form, of which the front is used. And what the
-- answers of the code say, with the contracts of the reader and of the calls that write a file.
use Rattle.std.specs.Prelude.{Bool, true, false, List, [], ◌++◌, ◌≡◌, ℕ, ◌<◌, length, get_or, drop}
use Rattle.std.specs.Prelude.{Option, None, Some}
use Rattle.fairness.specs.Leximin.{table}
use Rattle.model.specs.Lowest.{when, value_or, is_some}
use Rattle.model.specs.Book.{Book, Grid, seats, windows}
use Rattle.sheet.specs.Sheets.{grid_of}
use Rattle.dayfile.specs.Layout.{book_of, sheet_of}
use Rattle.dayfile.specs.File.{file_of}
use Rattle.dayfile.specs.Table.{Line, Refusal, refuse, read_lines, write_lines}
use Rattle.dayfile.specs.Outcome.{Outcome, turned_away, answer, Defined}
use Rattle.dayfile.specs.declared.Book as Memory
use Rattle.dayfile.specs.declared.Day.{Day}
use Rattle.dayfile.specs.declared.Reading.{Reading}
use Rattle.dayfile.specs.declared.Found.{Found}
use Rattle.dayfile.specs.declared.Found.TheVariants.{At, Nothing}
use Rattle.dayfile.specs.declared.Check as Check
use Rattle.dayfile.specs.declared.Written as Written

-- n numbers: those of the list, and 0 past its end
unfoldable pub sized : ℕ → List ℕ → List ℕ
sized n xs = table n (λ i. get_or xs i 0)

-- n rows of m numbers: those of the grid, and 0 outside it
unfoldable pub sized_grid : ℕ → ℕ → Grid → Grid
sized_grid n m g = table n (λ i. sized m (get_or g i []))

-- ---- what is in memory: only used entries count

-- the book that is in memory, its caps beside it
unfoldable pub book_in : Memory.Book → Grid → Book
book_in m caps =
    record {
      classes = sized m.seats m.classes;
      supplies = sized m.windows m.supplies;
      caps = sized_grid m.seats m.windows caps;
      first = when m.has_first m.first;
      balances = when m.has_balances (sized m.seats m.balances);
      weights = when m.has_weights (sized 8 m.weights);
    }

-- the used cells of a grid that is in memory
abbrev pub cells_in : Memory.Book → Grid → Grid
cells_in m grid = sized_grid m.seats m.windows grid

-- the sheet that is in memory, if there is one
abbrev pub sheet_in : Memory.Book → Bool → Grid → Option Grid
sheet_in m true sheet = Some (cells_in m sheet)
sheet_in m false sheet = None

-- the file of a book that is in memory, with or without a sheet
unfoldable pub file_with : Memory.Book → Grid → Bool → Grid → List ℕ
file_with m caps has_sheet sheet = file_of (book_in m caps) (sheet_in m has_sheet sheet)

-- the book of a day, its sheet or its absence, and the file of both
abbrev pub day_book : Day → Book
day_book d = book_in d.book (grid_of d.caps)

abbrev pub day_sheet : Day → Option Grid
day_sheet d = sheet_in d.book d.has_sheet (grid_of d.sheet)

abbrev pub file_in : Day → List ℕ
file_in d = file_with d.book (grid_of d.caps) d.has_sheet (grid_of d.sheet)

-- ---- from a file into memory: unused cells are 0

-- a grid in memory
abbrev pub held : Grid → Grid
held g = sized_grid 32 24 g

-- a day in memory holds a book, and a sheet or its absence; where there is none all cells are 0, and so are a first seat that is not named,
-- and balances and weights that are not there
pub record Holds (b : Book) (s : Option Grid) (d : Day) : Type 0 where
  pub seats_are : d.book.seats ≡ seats b
  pub windows_are : d.book.windows ≡ windows b
  pub classes_are : d.book.classes ≡ sized 32 b.classes
  pub supplies_are : d.book.supplies ≡ sized 24 b.supplies
  pub caps_are : grid_of d.caps ≡ held b.caps
  pub has_first_is : d.book.has_first ≡ is_some b.first
  pub first_is : d.book.first ≡ value_or b.first 0
  pub has_balances_is : d.book.has_balances ≡ is_some b.balances
  pub balances_are : d.book.balances ≡ sized 32 (value_or b.balances [])
  pub has_weights_is : d.book.has_weights ≡ is_some b.weights
  pub weights_are : d.book.weights ≡ sized 8 (value_or b.weights [])
  pub has_sheet_is : d.has_sheet ≡ is_some s
  pub sheet_is : grid_of d.sheet ≡ held (value_or s [])

-- no seats and no windows: a day that holds it has 0 everywhere
abbrev pub no_book : Book
no_book = record { classes = []; supplies = []; caps = []; first = None; balances = None; weights = None }

-- ---- what answers say

abbrev pub found : Found → Option ℕ
found (At p) = Some p
found Nothing = None

-- what was found, if anything, is below n
abbrev pub Under : ℕ → Option ℕ → Type 0
Under n None = Unit {0}
Under n (Some p) = p < n

abbrev pub refused : Check.Check → Option Refusal
refused (Check.TheVariants.Refused n p) = Some (refuse n p)
refused Check.TheVariants.Sound = None

abbrev pub written : Written.Written → Outcome ℕ
written (Written.TheVariants.Refused n p) = turned_away (refuse n p)
written (Written.TheVariants.Whole n) = answer n

-- what the reader answers
abbrev pub reading_as : Check.Check → Day → Outcome Day
reading_as (Check.TheVariants.Refused n p) d = turned_away (refuse n p)
reading_as Check.TheVariants.Sound d = answer d

abbrev pub reading : Reading → Outcome Day
reading r = reading_as r.check r.day

-- the reader's contract: down its lines, the day of the file; at a refusal a day of zeros
pub record Reads (file : List ℕ) (r : Reading) : Type 0 where
  pub defined : Defined (read_lines file) [] [] (reading r) (Holds (book_of file) (sheet_of file))
  pub zeros : (q : Refusal) → reading r ≡ turned_away q → Holds no_book None r.day

-- a file at the front of a buffer; the bytes after it keep their values
unfoldable pub front : List ℕ → List ℕ → List ℕ
front file buf = file ++ drop (length file) buf

-- the contract of a call that writes a file: down its lines for a buffer of that length, the file's length, with the file at the front
abbrev pub Writes : (lines : ℕ → List Line) (file before after : List ℕ) → Written.Written → Type 0
Writes lines file before after r =
    Defined (lines (length before)) before after (written r) (λ n. (n ≡ length file) × (after ≡ front file before))

-- the writer's contract
abbrev pub WritesDay : Day → (before after : List ℕ) → Written.Written → Type 0
WritesDay d before after r = Writes (write_lines (file_in d)) (file_in d) before after r
