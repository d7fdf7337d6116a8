-- Paper 01, "Where each file is turned away", with the lines of paper 02: each line of the table gives the lowest offset at which its
-- condition holds, or nothing.
-- The comments are the table's own words: the condition, and the offset given.
use Rattle.std.specs.Prelude.{Bool, true, false, not, cond, ◌&&◌, ◌||◌, List, [], ◌∷◌, ◌++◌, ℕ, zero, suc, ◌+◌, ◌-◌, ◌*◌, ◌%◌, leb, ltb}
use Rattle.std.specs.Prelude.{eqb, length}
use Rattle.std.specs.Prelude.{Option, None, Some}
use Rattle.fairness.specs.Sums.{sum}
use Rattle.model.specs.Lowest.{lowest, when, or_else, and_then, is_some}
use Rattle.model.specs.Book.{Book, seats, balances_of, weights_of, is_idle}
use Rattle.dayfile.specs.Layout.{field, count, contents_end, kind, start, size, kind_at, start_at, size_at, entry_of, ends}
use Rattle.dayfile.specs.Layout.{seats_in, windows_in, book_of}
use Rattle.dayfile.specs.File.{file_of}

-- low to high, both in
abbrev pub within : ℕ → ℕ → ℕ → Bool
within low high x = leb low x && leb x high

-- the offset of what was found
abbrev pub offset : (ℕ → ℕ) → Option ℕ → Option ℕ
offset at found = and_then found (λ i. Some (at i))

-- the first entry that is not right, by the offset of one of its fields
abbrev pub wrong_entry : (ℕ → ℕ) → (List ℕ → ℕ → Bool) → List ℕ → Option ℕ
wrong_entry at right f = offset at (lowest (count f) (λ e. not (right f e)))

-- the last kind that is known
abbrev pub known : ℕ
known = 7

-- ---- contents

-- 1: under 2 bytes | file length
unfoldable pub line1 : List ℕ → Option ℕ
line1 f = when (ltb (length f) 2) (length f)

-- 2: entries not 3 to 7 | 0
unfoldable pub line2 : List ℕ → Option ℕ
line2 f = when (not (within 3 known (count f))) 0

-- 3: file ends within the contents | file length
unfoldable pub line3 : List ℕ → Option ℕ
line3 f = when (ltb (length f) (contents_end (count f))) (length f)

-- entries 0, 1, 2 are of kinds 1, 2, 3; the kinds after them rise, and none is unknown
unfoldable pub kind_right : List ℕ → ℕ → Bool
kind_right f e = cond (ltb e 3) (eqb (kind f e) (e + 1)) (within (kind f (e - 1) + 1) known (kind f e))

-- 4: kinds not 1, 2, 3, then rising and known | that kind field
unfoldable pub line4 : List ℕ → Option ℕ
line4 f = wrong_entry kind_at kind_right f

-- a body starts where the part before it ends
abbrev pub start_right : List ℕ → ℕ → Bool
start_right f e = eqb (start f e) (ends f e)

-- 5: start not where the part before ends | that start field
unfoldable pub line5 : List ℕ → Option ℕ
line5 f = wrong_entry start_at start_right f

-- 6: last body does not end at the file's end | file length
unfoldable pub line6 : List ℕ → Option ℕ
line6 f = when (not (eqb (ends f (count f)) (length f))) (length f)

-- ---- body lengths

-- low to high, and even
unfoldable pub size_right : ℕ → ℕ → ℕ → Bool
size_right low high n = within low high n && eqb (n % 2) 0

-- 7: seats: not 2 to 64, or odd | that length field
unfoldable pub line7 : List ℕ → Option ℕ
line7 f = when (not (size_right 2 64 (size f 0))) (size_at 0)

-- 8: windows: not 2 to 48, or odd | that length field
unfoldable pub line8 : List ℕ → Option ℕ
line8 f = when (not (size_right 2 48 (size f 1))) (size_at 1)

-- a body of kind 3 or 4 has two bytes for each seat and window
unfoldable pub grid_right : List ℕ → ℕ → Bool
grid_right f e = cond (within 3 4 (kind f e)) (eqb (size f e) (2 * (seats_in f * windows_in f))) true

-- 9: caps or sheet: not 2 × seats × windows | that length field
unfoldable pub line9 : List ℕ → Option ℕ
line9 f = wrong_entry size_at grid_right f

-- ---- values

-- the number before number i of a row; before the first comes 0
abbrev pub previous : (ℕ → ℕ) → ℕ → ℕ
previous x zero = 0
previous x (suc i) = x i

-- a number is low to high and, where numbers are to rise, greater than the one before it
abbrev pub right_after : ℕ → ℕ → Bool → ℕ → ℕ → Bool
right_after low high rising before x = (not rising || ltb before x) && within low high x

-- the same of number i of a row
abbrev pub number_right : ℕ → ℕ → Bool → (ℕ → ℕ) → ℕ → Bool
number_right low high rising x i = right_after low high rising (previous x i) (x i)

-- the first of n fields from an offset on that is not right
unfoldable pub wrong_field : List ℕ → ℕ → ℕ → ℕ → ℕ → Bool → Option ℕ
wrong_field f at n low high rising =
    offset (λ i. at + 2 * i) (lowest n (λ i. not (number_right low high rising (λ k. field f (at + 2 * k)) i)))

-- the first of n fields from an offset on that is not low to high
abbrev pub outside : List ℕ → ℕ → ℕ → ℕ → ℕ → Option ℕ
outside f at n low high = wrong_field f at n low high false

-- 10: class not 1 to 8 | that class
unfoldable pub line10 : List ℕ → Option ℕ
line10 f = outside f (start f 0) (seats_in f) 1 8

-- 11: supply above 4,095 | that supply
unfoldable pub line11 : List ℕ → Option ℕ
line11 f = outside f (start f 1) (windows_in f) 0 4095

-- 12: cap above 4,095 | that cap
unfoldable pub line12 : List ℕ → Option ℕ
line12 f = outside f (start f 2) (seats_in f * windows_in f) 0 4095

-- ---- parts that may be missing

-- entry e as a body of n fields, each low to high, rising or not: its length is not 2 × n | that length field; or a field is not right |
-- that value
unfoldable pub wrong_fields : List ℕ → ℕ → ℕ → ℕ → Bool → ℕ → Option ℕ
wrong_fields f n low high rising e =
    or_else (when (not (eqb (size f e) (2 * n))) (size_at e)) (wrong_field f (start f e) n low high rising)

-- 18: first seat: length not 2, or not a seat of the book | that length field, or that value
unfoldable pub line18 : List ℕ → Option ℕ
line18 f = and_then (entry_of f 5) (wrong_fields f 1 1 (seats_in f) false)

-- 19: balances: length not 2 × seats, or a balance above 50,000 | that length field, or that value
unfoldable pub line19 : List ℕ → Option ℕ
line19 f = and_then (entry_of f 6) (wrong_fields f (seats_in f) 0 50000 false)

-- 20: weights: length not 16, or a weight that is not 1 to 1,000 or not greater than the one before | that length field, or that value
unfoldable pub line20 : List ℕ → Option ℕ
line20 f = and_then (entry_of f 7) (wrong_fields f 8 1 1000 true)

-- ---- marker only

-- 13: no sheet | 0
unfoldable pub line13 : List ℕ → Option ℕ
line13 f = when (not (is_some (entry_of f 4))) 0

-- where a number of an entry's body stands; the sheet's cells count in the file's order, and the cap of a cell has the same number
abbrev pub cell_at : List ℕ → ℕ → ℕ → ℕ
cell_at f e i = start f e + 2 * i

-- 14: cell above its cap | that cell
unfoldable pub line14 : List ℕ → Option ℕ
line14 f =
    and_then (entry_of f 4)
    (λ e. offset (cell_at f e)
    (lowest (seats_in f * windows_in f) (λ i. ltb (field f (cell_at f 2 i)) (field f (cell_at f e i)))))

-- a window's cells together
abbrev pub placed_in : List ℕ → ℕ → ℕ → ℕ
placed_in f e j = sum (seats_in f) (λ i. field f (cell_at f e (i * windows_in f + j)))

-- 15: window's cells above its supply | that supply
unfoldable pub line15 : List ℕ → Option ℕ
line15 f =
    and_then (entry_of f 4)
    (λ e. offset (cell_at f 1) (lowest (windows_in f) (λ j. ltb (field f (cell_at f 1 j)) (placed_in f e j))))

-- ---- planner and forecast only

-- 22: idle seat, whose caps are all zero | that seat's class
unfoldable pub line22 : List ℕ → Option ℕ
line22 f = offset (cell_at f 0) (lowest (seats (book_of f)) (is_idle (book_of f)))

-- ---- wanted totals

-- 21: row not 4 bytes per seat | 0
unfoldable pub line21 : List ℕ → List ℕ → Option ℕ
line21 f row = when (not (eqb (length row) (4 * seats_in f))) 0

-- ---- lent buffer

-- 16: shorter than the length needed | length needed
unfoldable pub line16 : ℕ → ℕ → Option ℕ
line16 room need = when (ltb room need) need

-- ---- two files

-- two lists are as long as each other, and pass a test place by place
unfoldable pub alike : {A : Type 0} → (A → A → Bool) → List A → List A → Bool
alike test [] [] = true
alike test [] (y ∷ ys) = false
alike test (x ∷ xs) [] = false
alike test (x ∷ xs) (y ∷ ys) = test x y && alike test xs ys

-- two books have the same numbers in force: classes, supplies, caps, balances, of which missing ones count as zeros, and all eight weights,
-- of which missing ones count as paper 01's
unfoldable pub same_book : Book → Book → Bool
same_book b c =
    alike eqb b.classes c.classes
    && (alike eqb b.supplies c.supplies
    && (alike (alike eqb) b.caps c.caps
    && (alike eqb (balances_of b) (balances_of c)
    && alike eqb (weights_of b) (weights_of c))))

-- 17: the class, supply or cap bodies of two files differ, their balances or their weights | 0
unfoldable pub line17 : List ℕ → List ℕ → Option ℕ
line17 f g = when (not (same_book (book_of f) (book_of g))) 0

-- ---- the refusal

-- a line of the table: its number, and the offset where it holds
pub record Line : Type 0 where
  pub number : ℕ
  pub place : Option ℕ

abbrev pub line : ℕ → Option ℕ → Line
line n p = record { number = n; place = p }

-- a refusal holds its number and an offset
pub record Refusal : Type 0 where
  pub number : ℕ
  pub at : ℕ

abbrev pub refuse : ℕ → ℕ → Refusal
refuse n p = record { number = n; at = p }

abbrev pub or_refuse : ℕ → Option ℕ → Option Refusal → Option Refusal
or_refuse n (Some p) next = Some (refuse n p)
or_refuse n None next = next

-- checks run down the lines: the first that holds is the refusal
abbrev pub first_of : List Line → Option Refusal
first_of [] = None
first_of (l ∷ ls) = or_refuse l.number l.place (first_of ls)

-- ---- the lines, by where they are checked

unfoldable pub contents_lines : List ℕ → List Line
contents_lines f =
    line 1 (line1 f) ∷ line 2 (line2 f) ∷ line 3 (line3 f) ∷ line 4 (line4 f) ∷ line 5 (line5 f) ∷ line 6 (line6 f) ∷ []

unfoldable pub length_lines : List ℕ → List Line
length_lines f = line 7 (line7 f) ∷ line 8 (line8 f) ∷ line 9 (line9 f) ∷ []

unfoldable pub value_lines : List ℕ → List Line
value_lines f = line 10 (line10 f) ∷ line 11 (line11 f) ∷ line 12 (line12 f) ∷ []

-- the lines of the kinds that may be missing
unfoldable pub option_lines : List ℕ → List Line
option_lines f = line 18 (line18 f) ∷ line 19 (line19 f) ∷ line 20 (line20 f) ∷ []

unfoldable pub marker_lines : List ℕ → List Line
marker_lines f = line 13 (line13 f) ∷ line 14 (line14 f) ∷ line 15 (line15 f) ∷ []

unfoldable pub idle_lines : List ℕ → List Line
idle_lines f = line 22 (line22 f) ∷ []

unfoldable pub row_lines : List ℕ → List ℕ → List Line
row_lines f row = line 21 (line21 f row) ∷ []

unfoldable pub buffer_lines : ℕ → ℕ → List Line
buffer_lines room need = line 16 (line16 room need) ∷ []

unfoldable pub pair_lines : List ℕ → List ℕ → List Line
pair_lines f g = line 17 (line17 f g) ∷ []

-- ---- the lines of each call, down the table

-- the reader, on a file
unfoldable pub read_lines : List ℕ → List Line
read_lines f = contents_lines f ++ (length_lines f ++ (value_lines f ++ option_lines f))

-- the marker's but for its buffer, on a file
unfoldable pub sheet_lines : List ℕ → List Line
sheet_lines f = read_lines f ++ marker_lines f

-- what the marker asks of its buffer: three bytes for each of 31 moves
abbrev pub moves_room : ℕ
moves_room = 93

-- the marker, on a file and a buffer of `room` bytes
unfoldable pub mark_lines : List ℕ → ℕ → List Line
mark_lines f room = sheet_lines f ++ buffer_lines room moves_room

-- the better of two, on two files: all lines of the first, then all of the second, and last line 17, of both
unfoldable pub better_lines : List ℕ → List ℕ → List Line
better_lines f g = sheet_lines f ++ (sheet_lines g ++ pair_lines f g)

-- the length of the file that the planner writes: the book's with a sheet, and its caps stand here for any sheet
unfoldable pub planned_length : Book → ℕ
planned_length b = length (file_of b (Some b.caps))

-- the planner's but for its buffer, on a file: the forecast's
abbrev pub forecast_lines : List ℕ → List Line
forecast_lines f = read_lines f ++ idle_lines f

-- the planner, on a file and a buffer
unfoldable pub plan_lines : List ℕ → ℕ → List Line
plan_lines f room = forecast_lines f ++ buffer_lines room (planned_length (book_of f))

-- the length of a sheet body: two bytes for each seat and window
abbrev pub body_length : List ℕ → ℕ
body_length f = 2 * (seats_in f * windows_in f)

-- from wanted totals to a sheet, on a file, a row and a buffer: whether a sheet comes or a group, the buffer has room for a sheet body
unfoldable pub fulfil_lines : List ℕ → List ℕ → ℕ → List Line
fulfil_lines f row room = read_lines f ++ (row_lines f row ++ buffer_lines room (body_length f))

-- the writer, on the file that it would write and a buffer: 7, 8, 10, 11, 12, the lines of the kinds that may be missing, and 16
unfoldable pub write_lines : List ℕ → ℕ → List Line
write_lines f room =
    line 7 (line7 f) ∷ line 8 (line8 f) ∷ (value_lines f ++ (option_lines f ++ buffer_lines room (length f)))
