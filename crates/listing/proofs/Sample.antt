-- Paper 01's sample: what `mark` prints for K8.
use mathlib.Core.Path.{◌≡◌, refl}
use mathlib.Core.List.{List, [], ◌∷◌, ◌++◌}
use Rattle.std.specs.Prelude.{None, codes}
use Rattle.fairness.specs.Sums.{sum}
use Rattle.fairness.specs.Leximin.{table}
use Rattle.fairness.specs.Exchange.{Move, improves, ties_wrongly, improves_at, ties_at}
use Rattle.model.specs.Lowest.{lowest}
use Rattle.model.specs.Book.{Book, Grid, weight_in, instance_of, totals}
use Rattle.model.specs.Search.{member, any, filter, can_take, grow, layer, reached, fewest, donor_of, first_receiver, search}
use Rattle.model.specs.Marks.{seat_below, wasted_window, mark_of, result_of, move_bytes}
use Rattle.text.specs.Text.{digits, width_within, width_of, decimal, four_digits, opening_time}
use Rattle.lines.specs.Lines.{labelled, labelled_last, opens, head_line, window_line, seat_line, left_line, move_line}
use Rattle.lines.specs.Lines.{lines, window_lines, seat_lines, move_lines}
use Rattle.listing.specs.Listing.{book_lines, result_lines, listing_text, listing_of}

abbrev book : Book
book =
    record {
      classes = 1 ∷ 1 ∷ 1 ∷ [];
      supplies = 1 ∷ 3 ∷ [];
      caps = (1 ∷ 0 ∷ []) ∷ (1 ∷ 2 ∷ []) ∷ (0 ∷ 3 ∷ []) ∷ [];
      first = None;
      balances = None;
      weights = None;
    }

abbrev sheet : Grid
sheet = (0 ∷ 0 ∷ []) ∷ (1 ∷ 0 ∷ []) ∷ (0 ∷ 3 ∷ []) ∷ []

-- window 1 from 2 to 1, and window 2 from 3 to 2, counted from 0
abbrev moves : List Move
moves = record { window = 0; giver = 1; taker = 0 } ∷ record { window = 1; giver = 2; taker = 1 } ∷ []

pub sample :
    listing_of book sheet (result_of (mark_of book sheet)) moves
    ≡ codes "seats 3 windows 2\n"
    ++ codes "window 1 opens 0800 supply 1 placed 1\n"
    ++ codes "window 2 opens 0825 supply 3 placed 3\n"
    ++ codes "seat 1 class 1 total 0\n"
    ++ codes "seat 2 class 1 total 1\n"
    ++ codes "seat 3 class 1 total 3\n"
    ++ codes "mark 2\n"
    ++ codes "move window 1 from 2 to 1\n"
    ++ codes "move window 2 from 3 to 2\n"
unfolding sum weight_in table improves ties_wrongly improves_at ties_at lowest instance_of totals
    member any filter can_take grow layer reached fewest donor_of first_receiver search seat_below wasted_window mark_of
    digits width_within width_of decimal four_digits opening_time labelled labelled_last opens head_line window_line seat_line left_line
    move_line lines window_lines seat_lines move_lines book_lines result_lines listing_text move_bytes listing_of
sample = refl
