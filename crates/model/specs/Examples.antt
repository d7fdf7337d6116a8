-- Paper 01's starred examples, K1 to K10 and K12: a book, a sheet, its mark, the number of moves of the path that the mark
-- reports, and the totals. Where paper 01 gives what is planned, the sheet is one with those totals, and settled. Behind them paper 02's
-- order of the seat rule, on books of our own, its K5 with balances, and K5 with weights of its own.
use Rattle.std.specs.Prelude.{◌≡◌, List, [], ◌∷◌, ℕ}
use Rattle.std.specs.Prelude.{None, Some}
use Rattle.model.specs.Book.{Book, Grid, SheetOf, Lawful, NoneIdle, with_first, with_balances, with_weights, totals}
use Rattle.model.specs.Marks.{mark_of, result_of}

pub record Example : Type 0 where
  pub book : Book
  pub sheet : Grid
  pub mark : ℕ
  pub moves : ℕ
  pub sums : List ℕ

-- an example holds by the rules; as paper 02 says, its book has no idle seat
pub record Holds (e : Example) : Type 0 where
  pub a_sheet : SheetOf e.book e.sheet
  pub lawful : Lawful e.book e.sheet
  pub marked : (result_of (mark_of e.book e.sheet)).mark ≡ e.mark
  pub counted : (result_of (mark_of e.book e.sheet)).moves ≡ e.moves
  pub summed : totals e.book e.sheet ≡ e.sums
  pub none_idle : NoneIdle e.book

abbrev book : List ℕ → List ℕ → Grid → Book
book classes supplies caps =
    record { classes = classes; supplies = supplies; caps = caps; first = None; balances = None; weights = None }

-- a book with the seat that comes first
abbrev first_is : ℕ → Book → Book
first_is k b = with_first (Some k) b

-- a book with balances
abbrev carried : List ℕ → Book → Book
carried xs b = with_balances (Some xs) b

-- a book with weights of its own
abbrev weighed : List ℕ → Book → Book
weighed ws b = with_weights (Some ws) b

-- weights 1, 3 and so on; the largest that a file can hold; and paper 01's
abbrev steep : List ℕ
steep = 1 ∷ 3 ∷ 5 ∷ 7 ∷ 9 ∷ 11 ∷ 13 ∷ 15 ∷ []

abbrev large : List ℕ
large = 993 ∷ 994 ∷ 995 ∷ 996 ∷ 997 ∷ 998 ∷ 999 ∷ 1000 ∷ []

abbrev same : List ℕ
same = 1 ∷ 2 ∷ 3 ∷ 5 ∷ 8 ∷ 12 ∷ 20 ∷ 40 ∷ []

abbrev example : Book → Grid → ℕ → ℕ → List ℕ → Example
example b s mark moves sums = record { book = b; sheet = s; mark = mark; moves = moves; sums = sums }

-- the books of K1, K3, K5, K7, K8, K9, K10 and K12
abbrev k1 : Book
k1 = book (1 ∷ 1 ∷ []) (4 ∷ 4 ∷ []) ((4 ∷ 0 ∷ []) ∷ (4 ∷ 4 ∷ []) ∷ [])

abbrev k3 : Book
k3 = book (1 ∷ 1 ∷ []) (3 ∷ []) ((3 ∷ []) ∷ (3 ∷ []) ∷ [])

abbrev k5 : Book
k5 = book (1 ∷ 2 ∷ []) (4 ∷ []) ((4 ∷ []) ∷ (4 ∷ []) ∷ [])

abbrev k7 : Book
k7 = book (2 ∷ 1 ∷ []) (1 ∷ []) ((1 ∷ []) ∷ (1 ∷ []) ∷ [])

abbrev k8 : Book
k8 = book (1 ∷ 1 ∷ 1 ∷ []) (1 ∷ 3 ∷ []) ((1 ∷ 0 ∷ []) ∷ (1 ∷ 2 ∷ []) ∷ (0 ∷ 3 ∷ []) ∷ [])

abbrev k9 : Book
k9 = book (1 ∷ []) (0 ∷ []) ((5 ∷ []) ∷ [])

abbrev k10 : Book
k10 = book (1 ∷ []) (3 ∷ []) ((2 ∷ []) ∷ [])

abbrev k12 : Book
k12 = book (1 ∷ 1 ∷ 1 ∷ []) (1 ∷ 2 ∷ []) ((1 ∷ 0 ∷ []) ∷ (1 ∷ 1 ∷ []) ∷ (0 ∷ 2 ∷ []) ∷ [])

-- K7's book with its seats turned round, and three seats of one class at one window
abbrev k7r : Book
k7r = book (1 ∷ 2 ∷ []) (1 ∷ []) ((1 ∷ []) ∷ (1 ∷ []) ∷ [])

abbrev three : Book
three = book (1 ∷ 1 ∷ 1 ∷ []) (4 ∷ []) ((4 ∷ []) ∷ (4 ∷ []) ∷ (4 ∷ []) ∷ [])

abbrev pub examples : List Example
examples =
    -- K1, planned
    example k1 ((4 ∷ 0 ∷ []) ∷ (0 ∷ 4 ∷ []) ∷ []) 4 0 (4 ∷ 4 ∷ [])
    -- K2
    ∷ example k1 ((2 ∷ 0 ∷ []) ∷ (2 ∷ 4 ∷ []) ∷ []) 2 1 (2 ∷ 6 ∷ [])
    -- K3, planned
    ∷ example k3 ((2 ∷ []) ∷ (1 ∷ []) ∷ []) 4 0 (2 ∷ 1 ∷ [])
    -- K4
    ∷ example k3 ((1 ∷ []) ∷ (2 ∷ []) ∷ []) 3 1 (1 ∷ 2 ∷ [])
    -- K5, planned
    ∷ example k5 ((2 ∷ []) ∷ (2 ∷ []) ∷ []) 4 0 (2 ∷ 2 ∷ [])
    -- K6
    ∷ example k5 ((1 ∷ []) ∷ (3 ∷ []) ∷ []) 2 1 (1 ∷ 3 ∷ [])
    -- K7, planned
    ∷ example k7 ((0 ∷ []) ∷ (1 ∷ []) ∷ []) 4 0 (0 ∷ 1 ∷ [])
    -- K8, the sheet and planned
    ∷ example k8 ((0 ∷ 0 ∷ []) ∷ (1 ∷ 0 ∷ []) ∷ (0 ∷ 3 ∷ []) ∷ []) 2 2 (0 ∷ 1 ∷ 3 ∷ [])
    ∷ example k8 ((1 ∷ 0 ∷ []) ∷ (0 ∷ 2 ∷ []) ∷ (0 ∷ 1 ∷ []) ∷ []) 4 0 (1 ∷ 2 ∷ 1 ∷ [])
    -- K9
    ∷ example k9 ((0 ∷ []) ∷ []) 4 0 (0 ∷ [])
    -- K10, two sheets
    ∷ example k10 ((1 ∷ []) ∷ []) 1 0 (1 ∷ [])
    ∷ example k10 ((2 ∷ []) ∷ []) 4 0 (2 ∷ [])
    -- K12, the sheet and planned
    ∷ example k12 ((0 ∷ 0 ∷ []) ∷ (1 ∷ 0 ∷ []) ∷ (0 ∷ 2 ∷ []) ∷ []) 2 2 (0 ∷ 1 ∷ 2 ∷ [])
    ∷ example k12 ((1 ∷ 0 ∷ []) ∷ (0 ∷ 1 ∷ []) ∷ (0 ∷ 1 ∷ []) ∷ []) 4 0 (1 ∷ 1 ∷ 1 ∷ [])
    -- K3's book on a day when seat 2 comes first: the sheet that K3 plans is tied, and K4's is settled
    ∷ example (first_is 2 k3) ((2 ∷ []) ∷ (1 ∷ []) ∷ []) 3 1 (2 ∷ 1 ∷ [])
    ∷ example (first_is 2 k3) ((1 ∷ []) ∷ (2 ∷ []) ∷ []) 4 0 (1 ∷ 2 ∷ [])
    -- seat 1 named first is seat 1 first
    ∷ example (first_is 1 k3) ((2 ∷ []) ∷ (1 ∷ []) ∷ []) 4 0 (2 ∷ 1 ∷ [])
    -- seat 2 first, then 3, then 1
    ∷ example (first_is 2 three) ((1 ∷ []) ∷ (2 ∷ []) ∷ (1 ∷ []) ∷ []) 4 0 (1 ∷ 2 ∷ 1 ∷ [])
    ∷ example (first_is 2 three) ((1 ∷ []) ∷ (1 ∷ []) ∷ (2 ∷ []) ∷ []) 3 1 (1 ∷ 1 ∷ 2 ∷ [])
    -- seats of two weights do not tie: as in K7 the smaller one has the credit, whoever comes first
    ∷ example (first_is 2 k7r) ((1 ∷ []) ∷ (0 ∷ []) ∷ []) 4 0 (1 ∷ 0 ∷ [])
    -- K5 with balances 0 and 4, planned, and the sheet that K5 plans
    ∷ example (carried (0 ∷ 4 ∷ []) k5) ((3 ∷ []) ∷ (1 ∷ []) ∷ []) 4 0 (3 ∷ 1 ∷ [])
    ∷ example (carried (0 ∷ 4 ∷ []) k5) ((2 ∷ []) ∷ (2 ∷ []) ∷ []) 2 1 (2 ∷ 2 ∷ [])
    -- balances of 0 are as none
    ∷ example (carried (0 ∷ 0 ∷ []) k5) ((2 ∷ []) ∷ (2 ∷ []) ∷ []) 4 0 (2 ∷ 2 ∷ [])
    -- the sheet that K3 plans, where seat 1 carries over one credit: its 1 + 2 against 1 improves. Where seat 2 does, 2 and 1 + 1 are even
    ∷ example (carried (1 ∷ 0 ∷ []) k3) ((2 ∷ []) ∷ (1 ∷ []) ∷ []) 2 1 (2 ∷ 1 ∷ [])
    ∷ example (carried (0 ∷ 1 ∷ []) k3) ((2 ∷ []) ∷ (1 ∷ []) ∷ []) 4 0 (2 ∷ 1 ∷ [])
    -- where it carries over two, 2 against 2 + 1: the odd credit is seat 1's by the seat rule
    ∷ example (carried (0 ∷ 2 ∷ []) k3) ((2 ∷ []) ∷ (1 ∷ []) ∷ []) 3 1 (2 ∷ 1 ∷ [])
    -- a seat with a large balance and no credit gives nothing
    ∷ example (carried (0 ∷ 50000 ∷ []) k3) ((3 ∷ []) ∷ (0 ∷ []) ∷ []) 4 0 (3 ∷ 0 ∷ [])
    -- K5 where class 2 has weight 3: 1 and 3 are level, and the sheet that K5 plans is improvable
    ∷ example (weighed steep k5) ((1 ∷ []) ∷ (3 ∷ []) ∷ []) 4 0 (1 ∷ 3 ∷ [])
    ∷ example (weighed steep k5) ((2 ∷ []) ∷ (2 ∷ []) ∷ []) 2 1 (2 ∷ 2 ∷ [])
    -- with paper 01's weights it is K5
    ∷ example (weighed same k5) ((2 ∷ []) ∷ (2 ∷ []) ∷ []) 4 0 (2 ∷ 2 ∷ [])
    -- with weights 993 and 994 the odd credit of K7's book is the smaller seat's, as two weights do not tie
    ∷ example (weighed large k7) ((0 ∷ []) ∷ (1 ∷ []) ∷ []) 4 0 (0 ∷ 1 ∷ [])
    ∷ example (weighed large k7) ((1 ∷ []) ∷ (0 ∷ []) ∷ []) 2 1 (1 ∷ 0 ∷ [])
    -- weights 1 and 3 with balances 0 and 4: 2 and 4 + 2 over 3 are level
    ∷ example (weighed steep (carried (0 ∷ 4 ∷ []) k5)) ((2 ∷ []) ∷ (2 ∷ []) ∷ []) 4 0 (2 ∷ 2 ∷ [])
    -- K3's book with weights of its own on a day when seat 2 comes first
    ∷ example (weighed large (first_is 2 k3)) ((1 ∷ []) ∷ (2 ∷ []) ∷ []) 4 0 (1 ∷ 2 ∷ [])
    -- a weight of 0, which no file holds, counts as 1: as with weights 1 and 3
    ∷ example (weighed (0 ∷ 3 ∷ []) k5) ((1 ∷ []) ∷ (3 ∷ []) ∷ []) 4 0 (1 ∷ 3 ∷ [])
    ∷ example (weighed (0 ∷ 3 ∷ []) k5) ((2 ∷ []) ∷ (2 ∷ []) ∷ []) 2 1 (2 ∷ 2 ∷ [])
    ∷ []
