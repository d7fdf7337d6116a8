-- Paper 02, E1: which of two hand-ins is the better one, and the part of it that is handed back.
use Rattle.std.specs.Prelude.{cond, List, [], ◌↔◌, ◌≡◌, ℕ}
use Rattle.fairness.specs.Leximin.{Level, NoHigher, Higher}
use Rattle.model.specs.Lowest.{is_some}
use Rattle.model.specs.Fair.{profile_of}
use Rattle.dayfile.specs.Layout.{book_of, marked_sheet, sheet_body}
use Rattle.dayfile.specs.Table.{refuse, first_of, sheet_lines, better_lines}
use Rattle.dayfile.specs.Outcome.{Outcome, turned_away, answer, Defined}
use Rattle.choice.specs.declared.Choice.{Choice}
use Rattle.choice.specs.declared.Choice.TheVariants.{Refused, First, Second}

-- the list of a hand-in
abbrev pub list_of : List ℕ → List Level
list_of f = profile_of (book_of f) (marked_sheet f)

-- the one or the other of two hand-ins
pub data Side : Type 0 where
  first : Side
  second : Side

abbrev pub other : Side → Side
other first = second
other second = first

abbrev pub file_on : Side → (f g : List ℕ) → List ℕ
file_on first f g = f
file_on second f g = g

-- the second exactly where its list is higher, so on equal lists the first
abbrev pub Chosen : (f g : List ℕ) → Side → Type 0
Chosen f g side = (side ≡ second) ↔ Higher NoHigher (list_of f) (list_of g)

-- what the call answers: a refusal, or one of the two
abbrev pub side_of : Choice → Outcome Side
side_of (Refused file number at) = turned_away (refuse number at)
side_of First = answer first
side_of Second = answer second

-- whose refusal it is: 1 where a line of the first file's holds, 2 where one of the second's does, and 0 for line 17
abbrev pub file_refused : List ℕ → List ℕ → ℕ
file_refused f g = cond (is_some (first_of (sheet_lines f))) 1 (cond (is_some (first_of (sheet_lines g))) 2 0)

-- a refusal says whose it is
abbrev pub SaysWhose : (f g : List ℕ) → Choice → Type 0
SaysWhose f g (Refused file number at) = file ≡ file_refused f g
SaysWhose f g First = Unit {0}
SaysWhose f g Second = Unit {0}

-- the contract of the choice: down the lines of both files, the one that is chosen
pub record Chooses (f g : List ℕ) (r : Choice) : Type 0 where
  pub defined : Defined (better_lines f g) [] [] (side_of r) (Chosen f g)
  pub whose : SaysWhose f g r

-- what is handed back: the sheet body of the file that is chosen, and nothing of either at a refusal
abbrev pub handed_back : Choice → (f g : List ℕ) → List ℕ
handed_back (Refused file number at) f g = []
handed_back First f g = sheet_body f
handed_back Second f g = sheet_body g

-- the contract of the call that hands it back: the part of a choice that meets its contract
pub record HandsBack (f g part : List ℕ) : Type 0 where
  pub choice : Choice
  pub chooses : Chooses f g choice
  pub part_is : part ≡ handed_back choice f g
