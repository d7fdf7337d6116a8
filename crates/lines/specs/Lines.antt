-- The lines that the program `mark` prints, byte for byte. Seats, windows and moves count from 0 here and from 1 in the text.
use Rattle.std.specs.Prelude.{◌≡◌, List, [], ◌++◌, ℕ, zero, suc, ◌+◌, ◌*◌, length, get_or, drop, codes}
use Prim.Native.String.{String}
use Rattle.text.specs.Text.{decimal, four_digits, opening_time}

-- ---- parts of a line

-- a label's bytes and a number after them; as a field, with the label in words
unfoldable pub labelled : List ℕ → ℕ → List ℕ
labelled label n = label ++ decimal n

abbrev pub field : String → ℕ → List ℕ
field words n = labelled (codes words) n

-- .. and the end of the line
unfoldable pub labelled_last : List ℕ → ℕ → List ℕ
labelled_last label n = labelled label n ++ codes "\n"

abbrev pub last_field : String → ℕ → List ℕ
last_field words n = labelled_last (codes words) n

-- when window j opens
unfoldable pub opens : ℕ → List ℕ
opens j = codes " opens " ++ four_digits (opening_time j)

-- ---- lines; above each, one of paper 01's sample

-- seats 3 windows 2
unfoldable pub head_line : ℕ → ℕ → List ℕ
head_line n m = field "seats " n ++ last_field " windows " m

-- window 1 opens 0800 supply 1 placed 1
unfoldable pub window_line : ℕ → ℕ → ℕ → List ℕ
window_line j supply placed =
    field "window " (j + 1) ++ opens j ++ field " supply " supply ++ last_field " placed " placed

-- seat 2 class 1 total 1
unfoldable pub seat_line : ℕ → ℕ → ℕ → List ℕ
seat_line i class total = field "seat " (i + 1) ++ field " class " class ++ last_field " total " total

-- left window W seat S, counted from 1
unfoldable pub left_line : ℕ → ℕ → List ℕ
left_line window seat = field "left window " window ++ last_field " seat " seat

-- move window 1 from 2 to 1; all three counted from 1
unfoldable pub move_line : ℕ → ℕ → ℕ → List ℕ
move_line window giver taker = field "move window " window ++ field " from " giver ++ last_field " to " taker

-- refused N at P
unfoldable pub refusal_line : ℕ → ℕ → List ℕ
refusal_line number offset = field "refused " number ++ last_field " at " offset

-- ---- lines one after another

-- the lines 0 to n - 1 in a row
unfoldable pub lines : ℕ → (ℕ → List ℕ) → List ℕ
lines zero line = []
lines (suc n) line = lines n line ++ line n

-- a line for each window, seat and move, from lists
abbrev pub window_at : List ℕ → List ℕ → ℕ → List ℕ
window_at supplies placed j = window_line j (get_or supplies j 0) (get_or placed j 0)

unfoldable pub window_lines : ℕ → List ℕ → List ℕ → List ℕ
window_lines m supplies placed = lines m (window_at supplies placed)

abbrev pub seat_at : List ℕ → List ℕ → ℕ → List ℕ
seat_at classes totals i = seat_line i (get_or classes i 0) (get_or totals i 0)

unfoldable pub seat_lines : ℕ → List ℕ → List ℕ → List ℕ
seat_lines n classes totals = lines n (seat_at classes totals)

-- moves are given by three numbers each, window, giver and taker, as the marker writes them
abbrev pub move_at : List ℕ → ℕ → List ℕ
move_at moves k = move_line (get_or moves (k * 3) 0) (get_or moves (k * 3 + 1) 0) (get_or moves (k * 3 + 2) 0)

unfoldable pub move_lines : ℕ → List ℕ → List ℕ
move_lines count moves = lines count (move_at moves)

-- ---- output buffers

-- the text stands at the buffer's front, the rest is kept, and the text's length is given
pub record Printed (before text after : List ℕ) (n : ℕ) : Type 0 where
  pub buffer : after ≡ text ++ drop (length text) before
  pub size : n ≡ length text

-- no refusal's line is longer, where its two numbers may have twenty digits
abbrev pub refusal_max : ℕ
refusal_max = 53
