-- The three demands, each as one statement over the contracts of the public calls: the reader's `Reads`, the writer's `WritesDay`, the
-- marker's `Marks`, the planner's `Plans`, the listing's `Lists`, of the better of two `Chooses` and `HandsBack`, of wanted totals
-- `Fulfils`, and the forecast's `Forecasts`. Behind them stands what the better of two, the standard sheet, wanted totals, the forecast and
-- idle seats mean to their reader. Proved in proofs/Theorems.antt.
use Rattle.std.specs.Prelude.{◌≡◌, List, [], ◌↔◌, ◌⊎◌, ℕ, min, ◌+◌, ◌*◌, ◌≤◌, ◌<◌, length, get_or, take, replicate}
use Rattle.std.specs.Prelude.{Option, Some}
use Rattle.std.proofs.Math.Decide.{ℕ_discrete}
use Rattle.fairness.specs.Sums.{sum, over}
use Rattle.fairness.specs.Instance.{Instance, Sheet, Wasteful, Feasible, placed, group_capacity}
use Rattle.fairness.specs.Leximin.{Level, NoHigher, Equal, Higher, profile}
use Rattle.fairness.specs.Exchange.{Settled, Tied, play_all, PlaysOut}
use Rattle.model.specs.Book.{Grid, Book, SheetOf, Lawful, Idle, NoneIdle, cell, seats, windows, instance_of, totals}
use Rattle.model.specs.Marks.{mark_of, result_of}
use Rattle.model.specs.Fair.{profile_of, HighestList, StandardSheet}
use Rattle.dayfile.specs.declared.Day.{Day}
use Rattle.dayfile.specs.declared.Reading.{Reading}
use Rattle.dayfile.specs.declared.Written.{Written}
use Rattle.dayfile.specs.declared.Written.TheVariants.{Refused, Whole}
use Rattle.dayfile.specs.Layout.{book_of, sheet_of, field, start, seats_in, windows_in, grid_at, sheet_start, sheet_size, sheet_body, Bytes}
use Rattle.dayfile.specs.Table.{Refusal, read_lines, write_lines, mark_lines, plan_lines, better_lines, fulfil_lines, buffer_lines}
use Rattle.dayfile.specs.Table.{refuse, forecast_lines, planned_length, moves_room}
use Rattle.dayfile.specs.Outcome.{turned_away, answer, read_file, NoneHolds, FirstHolds, Defined}
use Rattle.dayfile.specs.Memory.{day_book, day_sheet, file_in, front, written, reading, Reads, WritesDay}
use Rattle.listing.specs.Listing.{listing_max}
use Rattle.listing.specs.Calls.{Listed, Lists}
use Rattle.answers.specs.declared.Marking.{Marking}
use Rattle.answers.specs.Answers.{told}
use Rattle.marker.specs.Marking.{marked_sheet, BufferAfter, Marks, moves_in, Passing}
use Rattle.planner.specs.Planning.{Planned, Plans}
use Rattle.choice.specs.declared.Choice.{Choice}
use Rattle.better.specs.Choice.{Side, other, file_on, list_of, Chosen, side_of, SaysWhose, Chooses, HandsBack}
use Rattle.reply.specs.declared.Reply.{Reply}
use Rattle.reply.specs.declared.Reply.TheVariants as variants
use Rattle.reply.specs.Numbers.{fulfil_numbers}
use Rattle.masks.specs.Sets.{bit}
use Rattle.wants.specs.Wanted.{want, Gives, Fulfillable, Overasks}
use Rattle.fulfil.specs.Fulfilling.{replied, Right, IsSheet, Fulfils}
use Rattle.forecast.specs.declared.Foretold.{Foretold}
use Rattle.forecast.specs.Forecasting.{will_place, Figures, figures_of, foretold, Forecasts}

-- ---- Demand 1: each call gives a defined outcome or a numbered refusal, and a refusal changes no byte.

-- for every file, book and buffer, by the contract of each call: `Defined` is beside `Outcome` in crates/dayfile/specs
pub record Demand1 : Type 0 where
  -- the reader has no buffer; its answer holds the book and the sheet, or its absence, that stand in the file
  pub reader : (file : List ℕ) (r : Reading) → Reads file r →
      Defined (read_lines file) [] [] (reading r) (λ d. (day_book d ≡ book_of file) × (day_sheet d ≡ sheet_of file))
  -- the writer's is the file's length, and the file stands at the buffer's front
  pub writer : (d : Day) (before after : List ℕ) (r : Written) → WritesDay d before after r →
      Defined (write_lines (file_in d) (length before)) before after (written r)
      (λ n. (n ≡ length (file_in d)) × (after ≡ front (file_in d) before))
  -- the marker's is the result of the mark that the rules give; marks 2 and 3 have their path at the buffer's front
  pub marker : (file before after : List ℕ) (r : Marking) → Marks file before after r →
      Defined (mark_lines file (length before)) before after (told r)
      (λ x. (x ≡ result_of (mark_of (book_of file) (marked_sheet file)))
      × BufferAfter (book_of file) (marked_sheet file) (answer (mark_of (book_of file) (marked_sheet file))) before after)
  -- the planner's is the planned file's length, and the file with the standard sheet stands at the buffer's front
  pub planner : (file before after : List ℕ) (r : Written) → Plans file before after r →
      Defined (plan_lines file (length before)) before after (written r)
      (λ n. (n ≡ planned_length (book_of file)) × Planned (book_of file) before after)
  -- the listing's is the text's length, and the text stands at the buffer's front
  pub listing : (file before after : List ℕ) (r : Written) → Lists file before after r →
      Defined (buffer_lines (length before) listing_max) before after (written r) (Listed file before after)
  -- the better of two has no buffer; its answer is the file that has the higher list, the first where the lists are equal; a refusal says
  -- whose it is
  pub better : (f g : List ℕ) (r : Choice) → Chooses f g r → Defined (better_lines f g) [] [] (side_of r) (Chosen f g) × SaysWhose f g r
  -- and what it hands back is the sheet body of that file, to the byte, and nothing at a refusal
  pub handed_back : (f g part : List ℕ) → HandsBack f g part →
      ((q : Refusal) → FirstHolds (better_lines f g) q → part ≡ [])
      × (NoneHolds (better_lines f g) → (side : Side) × (Chosen f g side × (part ≡ sheet_body (file_on side f g))))
  -- the reply to wanted totals is a sheet, whose body stands at the buffer's front, or a group, and then the buffer is as it was; it is a
  -- sheet exactly when there is one
  pub fulfil : (file row before after : List ℕ) (r : Reply) → Fulfils file row before after r →
      Defined (fulfil_lines file row (length before)) before after (replied r)
      (λ x. Right file row before after x × (IsSheet x ↔ Fulfillable (book_of file) (want row)))
  -- the forecast has no buffer; its answer is the length of the planned file and, of each window, the lesser of supply and caps added
  -- together; at a refusal all its numbers are 0
  pub forecast : (file : List ℕ) (r : Foretold) → Forecasts file r →
      Defined (forecast_lines file) [] [] (foretold r) (λ x. x ≡ figures_of (book_of file))
      × ((q : Refusal) → foretold r ≡ turned_away q → (r.length ≡ 0) × (r.placed ≡ replicate 24 0))

-- ---- Demand 2: lawful and wasteful are document 000's frugal and not non-wasteful; files written read back the same, and an accepted file
-- written again has the same bytes.

module _ (I : Instance) (μ : Sheet) where
  -- document 000's allocation: of no object more than its supply. Frugal: to no agent more of an object than it demands
  pub record Frugal : Type 0 where
    pub allocation : (b : ℕ) → b < I.windows → sum I.seats (λ a. μ a b) ≤ I.supply b
    pub frugal : (a b : ℕ) → a < I.seats → b < I.windows → μ a b ≤ I.cap a b

  -- document 000's non-wasteful: of each object all is handed out, or every agent has what it demands
  abbrev pub NonWasteful : Type 0
  NonWasteful =
      (b : ℕ) → b < I.windows → (sum I.seats (λ a. μ a b) ≡ I.supply b) ⊎ ((a : ℕ) → a < I.seats → μ a b ≡ I.cap a b)

pub record Demand2 : Type 0 where
  pub lawful : (b : Book) (s : Grid) → Lawful b s ↔ Frugal (instance_of b) (cell s)
  pub wasteful : (b : Book) (s : Grid) → Lawful b s →
      Wasteful (instance_of b) (cell s) ↔ (NonWasteful (instance_of b) (cell s) → ⊥)
  -- what the writer wrote, read from the buffer's front, is the book and the sheet that were in memory (the planner's: see demand 3)
  pub written_reads_back : (d : Day) (before after : List ℕ) (n : ℕ) → WritesDay d before after (Whole n) →
      read_file (take n after) ≡ answer (day_book d, day_sheet d)
  -- what the reader read of an accepted file, written to a buffer that is long enough, has the file's bytes
  pub same_bytes : (file : List ℕ) → Bytes file → NoneHolds (read_lines file) → (r : Reading) → Reads file r →
      (before after : List ℕ) (w : Written) → length file ≤ length before → WritesDay r.day before after w →
      (w ≡ Whole (length file)) × (after ≡ front file before)

-- ---- Demand 3: the marker passes a lawful sheet exactly when its sorted list of levels equals the highest of all lawful sheets; the
-- planner's sheet always passes, and (paper 02, E9) every accepted book without an idle seat is planned, given a buffer that is long
-- enough; the chain of a failing sheet, played move by move, is possible at every turn and ends in a lawful sheet with a higher list.

-- an accepted file with a lawful sheet, and what the marker answers with a buffer that is long enough
pub record Marked (file : List ℕ) (b : Book) (s : Grid) (before after : List ℕ) (r : Marking) : Type 0 where
  pub accepted : read_file file ≡ answer (b, Some s)
  pub lawful : Lawful b s
  pub long : moves_room ≤ length before
  pub marks : Marks file before after r

-- a chain of n moves at the front of a buffer, played on a sheet of the book, the first on the sheet as it is and each later one on what
-- the move before it left
pub record Improves (b : Book) (s : Grid) (n : ℕ) (buffer : List ℕ) : Type 0 where
  pub possible : PlaysOut (instance_of b) (cell s) (moves_in n buffer)
  pub lawful : Feasible (instance_of b) (play_all (cell s) (moves_in n buffer))
  pub higher : Higher NoHigher (profile_of b s) (profile (instance_of b) (play_all (cell s) (moves_in n buffer)))

-- the first n bytes of a buffer are a file of this book with a sheet that is lawful, has the book's highest list and follows the seat rule;
-- all settled sheets of the book have its totals, and of them all it is the standard one
pub record PlannedFile (b : Book) (n : ℕ) (buffer : List ℕ) : Type 0 where
  pub sheet : Grid
  pub reads_back : read_file (take n buffer) ≡ answer (b, Some sheet)
  pub lawful : Lawful b sheet
  pub highest : HighestList b (profile_of b sheet)
  pub ordered : Tied (instance_of b) (cell sheet) → ⊥
  pub totals_are : (t : Grid) → Settled (instance_of b) (cell t) → totals b t ≡ totals b sheet
  pub standard : StandardSheet b sheet

pub record Demand3 : Type 0 where
  -- there is one highest list
  pub highest_exists : (b : Book) → (xs : List Level) × HighestList b xs
  pub highest_one : (b : Book) (xs ys : List Level) → HighestList b xs → HighestList b ys → Equal NoHigher xs ys
  -- the marker passes a lawful sheet exactly when its list equals the highest list of the book
  pub passes_exactly : (file : List ℕ) (b : Book) (s : Grid) (before after : List ℕ) (r : Marking) → Marked file b s before after r →
      (xs : List Level) → HighestList b xs → Passing (told r) ↔ Equal NoHigher (profile_of b s) xs
  -- so no lawful sheet of the book has a higher list than a passing one
  pub passing_highest : (file : List ℕ) (b : Book) (s : Grid) (before after : List ℕ) (r : Marking) → Marked file b s before after r →
      Passing (told r) → (t : Grid) → SheetOf b t → Lawful b t → Higher NoHigher (profile_of b s) (profile_of b t) → ⊥
  -- a lawful sheet that fails and is not wasteful has a chain, and the chain improves
  pub fails : (file : List ℕ) (b : Book) (s : Grid) (before after : List ℕ) (r : Marking) → Marked file b s before after r →
      (Passing (told r) → ⊥) → (Wasteful (instance_of b) (cell s) → ⊥) →
      (n : ℕ) × ((told r ≡ answer (record { mark = 2; window = 0; seat = 0; moves = n })) × Improves b s n after)
  -- what the planner wrote is the file's own book with its standard sheet
  pub planned : (file before after : List ℕ) (n : ℕ) → Plans file before after (Whole n) → PlannedFile (book_of file) n after
  -- and the marker, given that file and any buffer that is long enough, answers mark 4
  pub planned_passes : (file before after : List ℕ) (n : ℕ) → Plans file before after (Whole n) →
      (moves moves' : List ℕ) (r : Marking) → moves_room ≤ length moves → Marks (take n after) moves moves' r →
      told r ≡ answer (record { mark = 4; window = 0; seat = 0; moves = 0 })
  -- these two are not said of nothing: given a buffer that is long enough, the planner plans every accepted book without an idle seat
  pub plans : (file : List ℕ) (b : Book) (s : Option Grid) → read_file file ≡ answer (b, s) → NoneIdle b →
      (before after : List ℕ) (r : Written) → planned_length b ≤ length before → Plans file before after r → r ≡ Whole (planned_length b)

-- ---- The better of two hand-ins (paper 02, E1), for its reader

-- one of two files is chosen, and its sheet body handed back: by demand 1 so it is where no line holds
pub record ChosenOf (f g : List ℕ) (side : Side) : Type 0 where
  pub free : NoneHolds (better_lines f g)
  pub chosen : Chosen f g side

pub record BetterOfTwo : Type 0 where
  -- what is handed back lies within its file, where the numbers for C say
  pub inside : (f g : List ℕ) (side : Side) → ChosenOf f g side →
      sheet_start (file_on side f g) + sheet_size (file_on side f g) ≤ length (file_on side f g)
  -- and is the sheet of that file: the same cells, read from its own bytes
  pub same_sheet : (f g : List ℕ) (side : Side) → ChosenOf f g side →
      grid_at (sheet_body (file_on side f g)) 0 (seats_in (file_on side f g)) (windows_in (file_on side f g))
      ≡ marked_sheet (file_on side f g)
  -- its list is not lower than the other's
  pub not_lower : (f g : List ℕ) (side : Side) → ChosenOf f g side →
      Higher NoHigher (list_of (file_on side f g)) (list_of (file_on (other side) f g)) → ⊥
  -- and where the marker passes either of the two, it passes this one; each with a buffer that is long enough
  pub passes : (f g : List ℕ) (side either : Side) → ChosenOf f g side →
      (before after before' after' : List ℕ) (r r' : Marking) → moves_room ≤ length before → moves_room ≤ length before' →
      Marks (file_on either f g) before after r → Passing (told r) → Marks (file_on side f g) before' after' r' → Passing (told r')

-- ---- The standard sheet (paper 02, E4), for its reader

pub record OneStandardSheet : Type 0 where
  -- every book has one, and no other
  pub there : (b : Book) → (s : Grid) × StandardSheet b s
  pub no_other : (b : Book) (s t : Grid) → StandardSheet b s → StandardSheet b t → s ≡ t
  -- of a file that nothing but 16 can turn away the planner writes the same bytes to any two buffers that are long enough
  pub same_plan : (file : List ℕ) → NoneHolds (forecast_lines file) → (before after before' after' : List ℕ) (r r' : Written) →
      planned_length (book_of file) ≤ length before → planned_length (book_of file) ≤ length before' →
      Plans file before after r → Plans file before' after' r' →
      (r ≡ Whole (planned_length (book_of file))) × ((r' ≡ r)
      × (take (planned_length (book_of file)) after ≡ take (planned_length (book_of file)) after'))

-- ---- From wanted totals to a sheet (paper 02, E7), for its reader

-- document 000's cap(I, A') of a group, letter by letter: over the objects, the lesser of β_I and what the group demands, where β_I is the
-- lesser of the supply and what all agents demand
abbrev pub document_cap : Instance → ℕ → ℕ
document_cap I group =
    sum I.windows
    (λ b. min (min (I.supply b) (sum I.seats (λ a. I.cap a b)))
    (over (λ a. ℕ_discrete (bit group a) 1) I.seats (λ a. I.cap a b)))

pub record SheetOrGroup : Type 0 where
  -- of any book and row exactly one of the two kinds of reply is possible: a lawful sheet with just those totals, or a group of seats that
  -- wants more than it can get
  pub one_is : (b : Book) (row : List ℕ) → Fulfillable b (want row) ⊎ ((g : ℕ) × Overasks (instance_of b) (want row) g)
  pub not_both : (b : Book) (row : List ℕ) → Fulfillable b (want row) → (g : ℕ) → Overasks (instance_of b) (want row) g → ⊥
  -- what a group can get is document 000's cap of it
  pub is_document_cap : (I : Instance) (group : ℕ) → group_capacity I (λ a. ℕ_discrete (bit group a) 1) ≡ document_cap I group
  -- a group is never empty, so where no line holds C tells a sheet by a group of 0
  pub not_empty : (b : Book) (row : List ℕ) → Overasks (instance_of b) (want row) 0 → ⊥
  pub told_apart : (file row before after : List ℕ) (r : Reply) → Fulfils file row before after r →
      NoneHolds (fulfil_lines file row (length before)) → ((fulfil_numbers r).group ≡ 0) ↔ Fulfillable (book_of file) (want row)
  -- a group changes no byte
  pub kept : (file row before after : List ℕ) (g : ℕ) → Fulfils file row before after (variants.Group g) → after ≡ before
  -- the bytes at the buffer's front that a sheet's reply tells, read cell by cell, are such a sheet
  pub reads_back : (file row before after : List ℕ) (n : ℕ) → Fulfils file row before after (variants.Sheet n) →
      Gives (book_of file) (want row) (grid_at (take n after) 0 (seats_in file) (windows_in file))

-- ---- What a plan will take (paper 02, E8), for its reader

-- the first n bytes of a buffer are a file of this book with a sheet, and this forecast told how many bytes they are, and how many credits
-- the sheet places in each window
pub record ToldAhead (b : Book) (n : ℕ) (buffer : List ℕ) (r : Foretold) : Type 0 where
  pub sheet : Grid
  pub reads_back : read_file (take n buffer) ≡ answer (b, Some sheet)
  pub answer_is : n ≡ r.length
  pub length_is : length (take n buffer) ≡ r.length
  pub placed_are : (j : ℕ) → j < windows b → placed (instance_of b) (cell sheet) j ≡ get_or r.placed j 0
  pub unused : (j : ℕ) → windows b ≤ j → get_or r.placed j 0 ≡ 0

pub record ForecastOfPlan : Type 0 where
  -- into whatever buffer a file is planned, its forecast told the length and each window's placed credits
  pub told_ahead : (file before after : List ℕ) (r : Foretold) (n : ℕ) → Forecasts file r → Plans file before after (Whole n) →
      ToldAhead (book_of file) n after r
  -- the planner's 16 asks for just that length
  pub asks : (file before after : List ℕ) (r : Foretold) (need : ℕ) → Forecasts file r → Plans file before after (Refused 16 need) →
      need ≡ r.length
  -- what the forecast turns away the planner turns away alike, whatever the buffer
  pub same_refusal : (file before after : List ℕ) (r : Foretold) (w : Written) (q : Refusal) → Forecasts file r →
      Plans file before after w → foretold r ≡ turned_away q → written w ≡ turned_away q
  -- and what it takes is planned into every buffer of that length and longer, and into no other
  pub room_suffices : (file before after : List ℕ) (r : Foretold) (w : Written) (x : Figures) → Forecasts file r →
      Plans file before after w → foretold r ≡ answer x → r.length ≤ length before → w ≡ Whole r.length
  pub too_short : (file before after : List ℕ) (r : Foretold) (w : Written) (x : Figures) → Forecasts file r →
      Plans file before after w → foretold r ≡ answer x → length before < r.length → written w ≡ turned_away (refuse 16 r.length)
  -- not the planner's sheet alone: every lawful sheet that is not wasteful places just these credits
  pub any_sheet : (b : Book) (s : Grid) → Lawful b s → (Wasteful (instance_of b) (cell s) → ⊥) → (j : ℕ) → j < windows b →
      placed (instance_of b) (cell s) j ≡ will_place b j

-- ---- Idle seats (paper 02, E9), for their reader

-- the lowest idle seat of a book
pub record LowestIdle (b : Book) (i : ℕ) : Type 0 where
  pub of_book : i < seats b
  pub idle : Idle b i
  pub lowest : (k : ℕ) → k < i → Idle b k → ⊥

-- an accepted file of a book whose lowest idle seat this is
pub record WithIdle (file : List ℕ) (b : Book) (i : ℕ) : Type 0 where
  pub sheet : Option Grid
  pub accepted : read_file file ≡ answer (b, sheet)
  pub seat : LowestIdle b i

pub record IdleSeats : Type 0 where
  -- every book has a lowest idle seat, or none is idle
  pub either : (b : Book) → ((i : ℕ) × LowestIdle b i) ⊎ NoneIdle b
  -- of a book that has one the planner says 22, whatever the buffer, and so does the forecast, at that seat's class
  pub not_planned : (file : List ℕ) (b : Book) (i : ℕ) → WithIdle file b i → (before after : List ℕ) (r : Written) →
      Plans file before after r → written r ≡ turned_away (refuse 22 (start file 0 + 2 * i))
  pub not_forecast : (file : List ℕ) (b : Book) (i : ℕ) → WithIdle file b i → (r : Foretold) →
      Forecasts file r → foretold r ≡ turned_away (refuse 22 (start file 0 + 2 * i))
  pub class_there : (file : List ℕ) (b : Book) (i : ℕ) → WithIdle file b i → get_or b.classes i 0 ≡ field file (start file 0 + 2 * i)
  -- behind all lines of the reader's: what it refuses, planner and forecast refuse alike
  pub reader_first : (file : List ℕ) (q : Refusal) → read_file file ≡ turned_away q →
      ((before after : List ℕ) (r : Written) → Plans file before after r → written r ≡ turned_away q)
      × ((r : Foretold) → Forecasts file r → foretold r ≡ turned_away q)
  -- of an accepted book that has none both figures are told (for the planner see demand 3)
  pub forecasts : (file : List ℕ) (b : Book) (s : Option Grid) → read_file file ≡ answer (b, s) → NoneIdle b →
      (r : Foretold) → Forecasts file r → foretold r ≡ answer (figures_of b)
  -- and no other call says 22, so it keeps no file from being read, written, marked, listed, compared or given wanted totals
  pub read : (file : List ℕ) (r : Reading) (p : ℕ) → Reads file r → reading r ≡ turned_away (refuse 22 p) → ⊥
  pub write : (d : Day) (before after : List ℕ) (r : Written) (p : ℕ) → WritesDay d before after r →
      written r ≡ turned_away (refuse 22 p) → ⊥
  pub mark : (file before after : List ℕ) (r : Marking) (p : ℕ) → Marks file before after r → told r ≡ turned_away (refuse 22 p) → ⊥
  pub list : (file before after : List ℕ) (r : Written) (p : ℕ) → Lists file before after r → written r ≡ turned_away (refuse 22 p) → ⊥
  pub better : (f g : List ℕ) (r : Choice) (p : ℕ) → Chooses f g r → side_of r ≡ turned_away (refuse 22 p) → ⊥
  pub fulfil : (file row before after : List ℕ) (r : Reply) (p : ℕ) → Fulfils file row before after r →
      replied r ≡ turned_away (refuse 22 p) → ⊥
