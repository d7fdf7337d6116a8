-- K11 of paper 01 to the byte, and with paper 02's kinds 5, 6 and 7, computed from the definitions.
-- Assumes nothing.
use mathlib.Core.List.{List, [], ◌∷◌, ◌++◌}
use Rattle.std.specs.Prelude.{Option, None, Some}
use mathlib.Core.Path.{◌≡◌, refl}
use Prim.Native.Nat.{ℕ}
use lib.ListN.{take}
use Rattle.fairness.specs.Leximin.{table}
use Rattle.model.specs.Lowest.{lowest}
use Rattle.model.specs.Book.{Book, Grid, with_first, with_balances, with_weights, all_zero, is_idle}
use Rattle.dayfile.specs.Layout.{field, entry_of, ends, fields_at, grid_at, first_in, balances_in, weights_in, book_of, sheet_of}
use Rattle.dayfile.specs.File.{bytes_of, contents, bodies, fields_of, assemble, flat, opt_part, opt_parts, parts_of, file_of}
use Rattle.dayfile.specs.Table.{refuse, kind_right, size_right, grid_right, wrong_field}
use Rattle.dayfile.specs.Table.{line1, line2, line3, line4, line5, line6, line7, line8, line9, line10, line11, line12}
use Rattle.dayfile.specs.Table.{wrong_fields, line18, line19, line20, contents_lines, length_lines, value_lines, option_lines, read_lines}
use Rattle.dayfile.specs.Table.{first_of, line16, line22, idle_lines, buffer_lines, forecast_lines, plan_lines, planned_length}
use Rattle.dayfile.specs.Outcome.{turned_away, answer, read_file}

-- the K10 book: supply 3; cap 2
abbrev book : Book
book = record { classes = 1 ∷ []; supplies = 3 ∷ []; caps = (2 ∷ []) ∷ []; first = None; balances = None; weights = None }

-- its planned sheet
abbrev sheet : Option Grid
sheet = Some ((2 ∷ []) ∷ [])

-- its file: 26 bytes
abbrev k11 : List ℕ
k11 =
    0x03 ∷ 0x00
    ∷ 0x01 ∷ 0x00 ∷ 0x14 ∷ 0x00 ∷ 0x02 ∷ 0x00
    ∷ 0x02 ∷ 0x00 ∷ 0x16 ∷ 0x00 ∷ 0x02 ∷ 0x00
    ∷ 0x03 ∷ 0x00 ∷ 0x18 ∷ 0x00 ∷ 0x02 ∷ 0x00
    ∷ 0x01 ∷ 0x00 ∷ 0x03 ∷ 0x00 ∷ 0x02 ∷ 0x00 ∷ []

-- planned: 34 bytes
abbrev planned : List ℕ
planned =
    0x04 ∷ 0x00
    ∷ 0x01 ∷ 0x00 ∷ 0x1A ∷ 0x00 ∷ 0x02 ∷ 0x00
    ∷ 0x02 ∷ 0x00 ∷ 0x1C ∷ 0x00 ∷ 0x02 ∷ 0x00
    ∷ 0x03 ∷ 0x00 ∷ 0x1E ∷ 0x00 ∷ 0x02 ∷ 0x00
    ∷ 0x04 ∷ 0x00 ∷ 0x20 ∷ 0x00 ∷ 0x02 ∷ 0x00
    ∷ 0x01 ∷ 0x00 ∷ 0x03 ∷ 0x00 ∷ 0x02 ∷ 0x00 ∷ 0x02 ∷ 0x00 ∷ []

-- the book with seat 1 named as the first, and with another number there
abbrev first_is : ℕ → Book
first_is k = with_first (Some k) book

-- a file of the book with a further kind of one field behind kind 3, whose bytes are given: 34 bytes
abbrev further : (kind low high : ℕ) → List ℕ
further kind low high =
    0x04 ∷ 0x00
    ∷ 0x01 ∷ 0x00 ∷ 0x1A ∷ 0x00 ∷ 0x02 ∷ 0x00
    ∷ 0x02 ∷ 0x00 ∷ 0x1C ∷ 0x00 ∷ 0x02 ∷ 0x00
    ∷ 0x03 ∷ 0x00 ∷ 0x1E ∷ 0x00 ∷ 0x02 ∷ 0x00
    ∷ kind ∷ 0x00 ∷ 0x20 ∷ 0x00 ∷ 0x02 ∷ 0x00
    ∷ 0x01 ∷ 0x00 ∷ 0x03 ∷ 0x00 ∷ 0x02 ∷ 0x00 ∷ low ∷ high ∷ []

-- the file with a first seat
abbrev named : ℕ → List ℕ
named k = further 5 k 0x00

-- planned: kind 5 behind kind 4, 42 bytes
abbrev named_planned : List ℕ
named_planned =
    0x05 ∷ 0x00
    ∷ 0x01 ∷ 0x00 ∷ 0x20 ∷ 0x00 ∷ 0x02 ∷ 0x00
    ∷ 0x02 ∷ 0x00 ∷ 0x22 ∷ 0x00 ∷ 0x02 ∷ 0x00
    ∷ 0x03 ∷ 0x00 ∷ 0x24 ∷ 0x00 ∷ 0x02 ∷ 0x00
    ∷ 0x04 ∷ 0x00 ∷ 0x26 ∷ 0x00 ∷ 0x02 ∷ 0x00
    ∷ 0x05 ∷ 0x00 ∷ 0x28 ∷ 0x00 ∷ 0x02 ∷ 0x00
    ∷ 0x01 ∷ 0x00 ∷ 0x03 ∷ 0x00 ∷ 0x02 ∷ 0x00 ∷ 0x02 ∷ 0x00 ∷ 0x01 ∷ 0x00 ∷ []

-- what is written of the book, without a sheet and with it
pub k11-written : (file_of book None ≡ k11) × (file_of book sheet ≡ planned)
unfolding file_of parts_of opt_parts opt_part flat assemble fields_of contents bodies bytes_of
k11-written = (refl, refl)

-- what the two files say; K11 less its last byte is refusal 6 at 25, and so is one byte more, at 27
pub k11-read :
    (read_file k11 ≡ answer (book, None))
    × (read_file planned ≡ answer (book, sheet))
    × (read_file (take 25 k11) ≡ turned_away (refuse 6 25))
    × (read_file (k11 ++ (0x00 ∷ [])) ≡ turned_away (refuse 6 27))
unfolding read_file read_lines contents_lines length_lines value_lines option_lines
    line1 line2 line3 line4 line5 line6 line7 line8 line9 line10 line11 line12
    line18 line19 line20 wrong_fields lowest kind_right size_right grid_right wrong_field field ends entry_of
    first_in balances_in weights_in book_of sheet_of fields_at grid_at table
k11-read = (refl, refl, refl, refl)

pub named-written : (file_of (first_is 1) None ≡ named 1) × (file_of (first_is 1) sheet ≡ named_planned)
unfolding file_of parts_of opt_parts opt_part flat assemble fields_of contents bodies bytes_of
named-written = (refl, refl)

-- the book has no seat 0 and no seat 2: refusal 18 at the value
pub named-read :
    (read_file (named 1) ≡ answer (first_is 1, None))
    × (read_file named_planned ≡ answer (first_is 1, sheet))
    × (read_file (named 0) ≡ turned_away (refuse 18 32))
    × (read_file (named 2) ≡ turned_away (refuse 18 32))
unfolding read_file read_lines contents_lines length_lines value_lines option_lines
    line1 line2 line3 line4 line5 line6 line7 line8 line9 line10 line11 line12
    line18 line19 line20 wrong_fields lowest kind_right size_right grid_right wrong_field field ends entry_of
    first_in balances_in weights_in book_of sheet_of fields_at grid_at table
named-read = (refl, refl, refl, refl)

-- the book with a balance of 50,000, and with a first seat or none
abbrev carried : Option ℕ → Book
carried k = with_balances (Some (50000 ∷ [])) (with_first k book)

-- planned: kinds 1 to 6, 50 bytes
abbrev carried_planned : List ℕ
carried_planned =
    0x06 ∷ 0x00
    ∷ 0x01 ∷ 0x00 ∷ 0x26 ∷ 0x00 ∷ 0x02 ∷ 0x00
    ∷ 0x02 ∷ 0x00 ∷ 0x28 ∷ 0x00 ∷ 0x02 ∷ 0x00
    ∷ 0x03 ∷ 0x00 ∷ 0x2A ∷ 0x00 ∷ 0x02 ∷ 0x00
    ∷ 0x04 ∷ 0x00 ∷ 0x2C ∷ 0x00 ∷ 0x02 ∷ 0x00
    ∷ 0x05 ∷ 0x00 ∷ 0x2E ∷ 0x00 ∷ 0x02 ∷ 0x00
    ∷ 0x06 ∷ 0x00 ∷ 0x30 ∷ 0x00 ∷ 0x02 ∷ 0x00
    ∷ 0x01 ∷ 0x00 ∷ 0x03 ∷ 0x00 ∷ 0x02 ∷ 0x00 ∷ 0x02 ∷ 0x00 ∷ 0x01 ∷ 0x00 ∷ 0x50 ∷ 0xC3 ∷ []

pub carried-written : (file_of (carried None) None ≡ further 6 0x50 0xC3) × (file_of (carried (Some 1)) sheet ≡ carried_planned)
unfolding file_of parts_of opt_parts opt_part flat assemble fields_of contents bodies bytes_of
carried-written = (refl, refl)

-- a balance of 50,001 is refusal 19 at the value; kind 8 is unknown
pub carried-read :
    (read_file (further 6 0x50 0xC3) ≡ answer (carried None, None))
    × (read_file carried_planned ≡ answer (carried (Some 1), sheet))
    × (read_file (further 6 0x51 0xC3) ≡ turned_away (refuse 19 32))
    × (read_file (further 8 0x50 0xC3) ≡ turned_away (refuse 4 20))
unfolding read_file read_lines contents_lines length_lines value_lines option_lines
    line1 line2 line3 line4 line5 line6 line7 line8 line9 line10 line11 line12
    line18 line19 line20 wrong_fields lowest kind_right size_right grid_right wrong_field field ends entry_of
    first_in balances_in weights_in book_of sheet_of fields_at grid_at table
carried-read = (refl, refl, refl, refl)

-- the book with weights of its own
abbrev weighed : List ℕ → Book
weighed ws = with_weights (Some ws) book

-- its file with the low and the high bytes of the first weight, of the second and of the last, between which 4 to 8 stand: 48 bytes
abbrev own : (first second last high : ℕ) → List ℕ
own first second last high =
    0x04 ∷ 0x00
    ∷ 0x01 ∷ 0x00 ∷ 0x1A ∷ 0x00 ∷ 0x02 ∷ 0x00
    ∷ 0x02 ∷ 0x00 ∷ 0x1C ∷ 0x00 ∷ 0x02 ∷ 0x00
    ∷ 0x03 ∷ 0x00 ∷ 0x1E ∷ 0x00 ∷ 0x02 ∷ 0x00
    ∷ 0x07 ∷ 0x00 ∷ 0x20 ∷ 0x00 ∷ 0x10 ∷ 0x00
    ∷ 0x01 ∷ 0x00 ∷ 0x03 ∷ 0x00 ∷ 0x02 ∷ 0x00
    ∷ first ∷ 0x00 ∷ second ∷ 0x00 ∷ 0x04 ∷ 0x00 ∷ 0x05 ∷ 0x00 ∷ 0x06 ∷ 0x00 ∷ 0x07 ∷ 0x00 ∷ 0x08 ∷ 0x00 ∷ last ∷ high ∷ []

pub own-written : file_of (weighed (2 ∷ 3 ∷ 4 ∷ 5 ∷ 6 ∷ 7 ∷ 8 ∷ 1000 ∷ [])) None ≡ own 2 3 0xE8 0x03
unfolding file_of parts_of opt_parts opt_part flat assemble fields_of contents bodies bytes_of
own-written = refl

-- a first weight of 0, a second that is not greater, and 1,001 are refusal 20, each at its value; a body of one field is so at its length
pub own_read :
    (read_file (own 2 3 0xE8 0x03) ≡ answer (weighed (2 ∷ 3 ∷ 4 ∷ 5 ∷ 6 ∷ 7 ∷ 8 ∷ 1000 ∷ []), None))
    × (read_file (own 0 3 0xE8 0x03) ≡ turned_away (refuse 20 32))
    × (read_file (own 3 3 0xE8 0x03) ≡ turned_away (refuse 20 34))
    × (read_file (own 3 2 0xE9 0x03) ≡ turned_away (refuse 20 34))
    × (read_file (own 2 3 0xE9 0x03) ≡ turned_away (refuse 20 46))
    × (read_file (further 7 0x02 0x00) ≡ turned_away (refuse 20 24))
unfolding read_file read_lines contents_lines length_lines value_lines option_lines
    line1 line2 line3 line4 line5 line6 line7 line8 line9 line10 line11 line12
    line18 line19 line20 wrong_fields lowest kind_right size_right grid_right wrong_field field ends entry_of
    first_in balances_in weights_in book_of sheet_of fields_at grid_at table
own_read = (refl, refl, refl, refl, refl, refl)

-- ---- idle seats

-- three seats of class 1 and two windows of 4 credits, with these caps of the first two seats; the third has none: 42 bytes
abbrev three : (a b c d : ℕ) → List ℕ
three a b c d =
    0x03 ∷ 0x00
    ∷ 0x01 ∷ 0x00 ∷ 0x14 ∷ 0x00 ∷ 0x06 ∷ 0x00
    ∷ 0x02 ∷ 0x00 ∷ 0x1A ∷ 0x00 ∷ 0x04 ∷ 0x00
    ∷ 0x03 ∷ 0x00 ∷ 0x1E ∷ 0x00 ∷ 0x0C ∷ 0x00
    ∷ 0x01 ∷ 0x00 ∷ 0x01 ∷ 0x00 ∷ 0x01 ∷ 0x00 ∷ 0x04 ∷ 0x00 ∷ 0x04 ∷ 0x00
    ∷ a ∷ 0x00 ∷ b ∷ 0x00 ∷ c ∷ 0x00 ∷ d ∷ 0x00 ∷ 0x00 ∷ 0x00 ∷ 0x00 ∷ 0x00 ∷ []

-- it is refused by 22 at the class of the lowest idle seat, and a buffer of no bytes does not hide that; but it is read
pub idle-told :
    (first_of (forecast_lines (three 4 0 0 4)) ≡ Some (refuse 22 24))
    × (first_of (forecast_lines (three 0 4 0 0)) ≡ Some (refuse 22 22))
    × (first_of (forecast_lines (three 0 0 0 1)) ≡ Some (refuse 22 20))
    × (first_of (plan_lines (three 4 0 0 0) 0) ≡ Some (refuse 22 22))
    × (read_file (three 0 0 0 0) ≡ answer (
      record {
        classes = 1 ∷ 1 ∷ 1 ∷ [];
        supplies = 4 ∷ 4 ∷ [];
        caps = (0 ∷ 0 ∷ []) ∷ (0 ∷ 0 ∷ []) ∷ (0 ∷ 0 ∷ []) ∷ [];
        first = None;
        balances = None;
        weights = None;
      },
      None,
    ))
unfolding read_file read_lines contents_lines length_lines value_lines option_lines
    line1 line2 line3 line4 line5 line6 line7 line8 line9 line10 line11 line12
    line18 line19 line20 wrong_fields lowest kind_right size_right grid_right wrong_field field ends entry_of
    first_in balances_in weights_in book_of sheet_of fields_at grid_at table
    idle_lines line22 is_idle all_zero plan_lines
idle-told = (refl, refl, refl, refl, refl)

-- one seat and three windows of 4 credits, with a cap of 256 in the last window alone: 34 bytes
abbrev last_cap : List ℕ
last_cap =
    0x03 ∷ 0x00
    ∷ 0x01 ∷ 0x00 ∷ 0x14 ∷ 0x00 ∷ 0x02 ∷ 0x00
    ∷ 0x02 ∷ 0x00 ∷ 0x16 ∷ 0x00 ∷ 0x06 ∷ 0x00
    ∷ 0x03 ∷ 0x00 ∷ 0x1C ∷ 0x00 ∷ 0x06 ∷ 0x00
    ∷ 0x01 ∷ 0x00 ∷ 0x04 ∷ 0x00 ∷ 0x04 ∷ 0x00 ∷ 0x04 ∷ 0x00
    ∷ 0x00 ∷ 0x00 ∷ 0x00 ∷ 0x00 ∷ 0x00 ∷ 0x01 ∷ []

-- it has no idle seat, and K11 has none: nothing but 16 keeps K11 from being planned
pub none-idle-told :
    (first_of (forecast_lines last_cap) ≡ None)
    × (first_of (forecast_lines k11) ≡ None)
    × (first_of (plan_lines k11 33) ≡ Some (refuse 16 34))
    × (first_of (plan_lines k11 34) ≡ None)
unfolding read_lines contents_lines length_lines value_lines option_lines
    line1 line2 line3 line4 line5 line6 line7 line8 line9 line10 line11 line12
    line18 line19 line20 wrong_fields lowest kind_right size_right grid_right wrong_field field ends entry_of
    first_in balances_in weights_in book_of fields_at grid_at table
    idle_lines line22 is_idle all_zero plan_lines buffer_lines line16 planned_length
    file_of parts_of opt_parts opt_part flat assemble fields_of contents bodies bytes_of
none-idle-told = (refl, refl, refl, refl)
