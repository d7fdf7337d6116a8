-- The text that the program `mark` prints, of the lines that the crate `lines` defines.
use Rattle.std.specs.Prelude.{Bool, true, false, List, ◌++◌, ℕ, ◌+◌, ◌*◌, eqb}
use Rattle.fairness.specs.Instance.{placed}
use Rattle.fairness.specs.Leximin.{table}
use Rattle.fairness.specs.Exchange.{Move}
use Rattle.model.specs.Book.{Book, Grid, cell, seats, windows, instance_of, totals}
use Rattle.model.specs.Marks.{Result, move_bytes}
use Rattle.lines.specs.Lines.{last_field, head_line, left_line, window_lines, seat_lines, move_lines}

-- how many seats and windows there are, the windows and the seats, from lists
unfoldable pub book_lines : (n m : ℕ) (classes supplies placed totals : List ℕ) → List ℕ
book_lines n m classes supplies placed totals = head_line n m ++ window_lines m supplies placed ++ seat_lines n classes totals

abbrev pub pick : Bool → List ℕ → List ℕ → List ℕ
pick true xs ys = xs
pick false xs ys = ys

-- the mark, with the window and seat of mark 1, and the moves of marks 2 and 3; mark 4 has none
unfoldable pub result_lines : Result → (moves : List ℕ) → List ℕ
result_lines r moves =
    last_field "mark " r.mark ++ pick (eqb r.mark 1) (left_line r.window r.seat) (move_lines r.moves moves)

-- a listing, from plain numbers: n seats, m windows
unfoldable pub listing_text : (n m : ℕ) (classes supplies placed totals : List ℕ) → Result → (moves : List ℕ) → List ℕ
listing_text n m classes supplies placed totals r moves = book_lines n m classes supplies placed totals ++ result_lines r moves

-- the listing of a book, a sheet, its mark's result and the moves that the marker wrote
unfoldable pub listing_of : Book → Grid → Result → List Move → List ℕ
listing_of b s r moves =
    listing_text (seats b) (windows b)
    b.classes b.supplies (table (windows b) (placed (instance_of b) (cell s))) (totals b s) r (move_bytes moves)

-- no listing is longer: the first line, 24 of windows, 32 of seats, the mark's and 31 of moves, where a supply and a class may have five
-- digits, placed credits and a total ten, and the mark and the numbers of a move three
abbrev pub listing_max : ℕ
listing_max = 20 + 24 * 52 + 32 * 37 + 9 + 31 * 32
