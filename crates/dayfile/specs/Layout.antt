-- Paper 01, "The day file", with paper 02's kinds 5, 6 and 7: its fields, its table of contents, and the book and the sheet that it holds.
-- Entries count from 0.
-- All of it is total: a byte past the file's end counts as 0.
use Rattle.std.specs.Prelude.{cond, List, [], ℕ, ◌+◌, ◌-◌, ◌*◌, ◌/◌, ◌<◌, eqb, get_or, take, drop}
use Rattle.std.specs.Prelude.{Option, Some}
use Rattle.fairness.specs.Leximin.{table}
use Rattle.model.specs.Lowest.{lowest, and_then, value_or}
use Rattle.model.specs.Book.{Book, Grid}

-- a list of bytes
abbrev pub Bytes : List ℕ → Type 0
Bytes f = (i : ℕ) → get_or f i 0 < 256

-- every field is two bytes, low byte first
unfoldable pub field : List ℕ → ℕ → ℕ
field f at = get_or f at 0 + 256 * get_or f (at + 1) 0

-- ---- the table of contents: the number of entries, then per entry a kind, a start and a length in bytes

-- the number of entries that the first field tells
abbrev pub entries_in : ℕ → ℕ
entries_in first = first

abbrev pub count : List ℕ → ℕ
count f = entries_in (field f 0)

-- where the contents end
abbrev pub contents_end : ℕ → ℕ
contents_end entries = 2 + 6 * entries

-- where entry e has its kind, its start and its length
abbrev pub kind_at : ℕ → ℕ
kind_at e = 2 + 6 * e

abbrev pub start_at : ℕ → ℕ
start_at e = 4 + 6 * e

abbrev pub size_at : ℕ → ℕ
size_at e = 6 + 6 * e

abbrev pub kind : List ℕ → ℕ → ℕ
kind f e = field f (kind_at e)

abbrev pub start : List ℕ → ℕ → ℕ
start f e = field f (start_at e)

abbrev pub size : List ℕ → ℕ → ℕ
size f e = field f (size_at e)

-- the entry of a kind, if there is one
unfoldable pub entry_of : List ℕ → ℕ → Option ℕ
entry_of f k = lowest (count f) (λ e. eqb (kind f e) k)

-- where the part before the body of entry e ends: the contents, or the body before it
unfoldable pub ends : List ℕ → ℕ → ℕ
ends f e = cond (eqb e 0) (contents_end (count f)) (start f (e - 1) + size f (e - 1))

-- a field for each seat in the first body, for each window in the second
abbrev pub seats_in : List ℕ → ℕ
seats_in f = size f 0 / 2

abbrev pub windows_in : List ℕ → ℕ
windows_in f = size f 1 / 2

-- ---- what the bodies say

-- n fields from an offset on
unfoldable pub fields_at : List ℕ → ℕ → ℕ → List ℕ
fields_at f at n = table n (λ i. field f (at + 2 * i))

-- a grid from an offset on: seat by seat, within a seat window by window
unfoldable pub grid_at : List ℕ → ℕ → ℕ → ℕ → Grid
grid_at f at n m = table n (λ i. fields_at f (at + 2 * (i * m)) m)

-- the grid that is the body of entry e
abbrev pub grid_in : List ℕ → ℕ → Grid
grid_in f e = grid_at f (start f e) (seats_in f) (windows_in f)

-- kind 5: one field, the seat that comes first today; it may be missing
unfoldable pub first_in : List ℕ → Option ℕ
first_in f = and_then (entry_of f 5) (λ e. Some (field f (start f e)))

-- kind 6: one balance per seat; it may be missing
unfoldable pub balances_in : List ℕ → Option (List ℕ)
balances_in f = and_then (entry_of f 6) (λ e. Some (fields_at f (start f e) (seats_in f)))

-- kind 7: eight weights, of classes 1 to 8; it may be missing
unfoldable pub weights_in : List ℕ → Option (List ℕ)
weights_in f = and_then (entry_of f 7) (λ e. Some (fields_at f (start f e) 8))

-- kind 1: each seat's class; kind 2: each window's supply; kind 3: caps; kind 5: the first seat; kind 6: balances; kind 7: weights
unfoldable pub book_of : List ℕ → Book
book_of f =
    record {
      classes = fields_at f (start f 0) (seats_in f);
      supplies = fields_at f (start f 1) (windows_in f);
      caps = grid_in f 2;
      first = first_in f;
      balances = balances_in f;
      weights = weights_in f;
    }

-- kind 4: the sheet, laid out as kind 3; it may be missing
unfoldable pub sheet_of : List ℕ → Option Grid
sheet_of f = and_then (entry_of f 4) (λ e. Some (grid_in f e))

-- the sheet marked: the file's kind 4 body
abbrev pub marked_sheet : List ℕ → Grid
marked_sheet f = value_or (sheet_of f) []

-- where the sheet's body starts, and its length in bytes; 0 where there is none
abbrev pub sheet_start : List ℕ → ℕ
sheet_start f = value_or (and_then (entry_of f 4) (λ e. Some (start f e))) 0

abbrev pub sheet_size : List ℕ → ℕ
sheet_size f = value_or (and_then (entry_of f 4) (λ e. Some (size f e))) 0

-- the sheet body: that part of the file
unfoldable pub sheet_body : List ℕ → List ℕ
sheet_body f = take (sheet_size f) (drop (sheet_start f) f)
