-- A book and a sheet as lists that hold the used entries alone, and what they are in the terms of the crate `fairness`.
-- Seats and windows count from 0 here: seat i is paper 01's seat i + 1, window j its window j + 1.
use Rattle.std.specs.Prelude.{◌≡◌, Bool, not, cond, ◌&&◌, List, [], ℕ, zero, suc, ◌+◌, ◌-◌, ◌<◌, eqb, ltb, length, get_or}
use Rattle.std.specs.Prelude.{Option}
use Rattle.fairness.specs.Classes.{class_weights}
use Rattle.fairness.specs.Instance.{Instance, Feasible, placed, total}
use Rattle.fairness.specs.Leximin.{table}
use Rattle.model.specs.Lowest.{lowest, is_some, value_or}

-- a row for each seat, a number for each window
abbrev pub Grid : Type 0
Grid = List (List ℕ)

-- the number of a seat and a window; 0 outside the grid
abbrev pub cell : Grid → ℕ → ℕ → ℕ
cell g i j = get_or (get_or g i []) j 0

-- the grid has a row for each of n seats, and each row a number for each of m windows
pub record Shaped (n m : ℕ) (g : Grid) : Type 0 where
  pub rows : length g ≡ n
  pub row : (i : ℕ) → i < n → length (get_or g i []) ≡ m

-- each seat's class, each window's supply, the most each seat can use in each window; paper 02's seat that comes first today, counted
-- from 1, where one is named; paper 02's balances carried over, one for each seat, where there are any; and paper 02's own weights of
-- classes 1 to 8, where there are any
pub record Book : Type 0 where
  pub classes : List ℕ
  pub supplies : List ℕ
  pub caps : Grid
  pub first : Option ℕ
  pub balances : Option (List ℕ)
  pub weights : Option (List ℕ)

abbrev pub seats : Book → ℕ
seats b = length b.classes

abbrev pub windows : Book → ℕ
windows b = length b.supplies

-- the same book where another seat is named, or none
abbrev pub with_first : Option ℕ → Book → Book
with_first k b =
    record { classes = b.classes; supplies = b.supplies; caps = b.caps; first = k; balances = b.balances; weights = b.weights }

-- the same book with other balances, or with none
abbrev pub with_balances : Option (List ℕ) → Book → Book
with_balances xs b =
    record { classes = b.classes; supplies = b.supplies; caps = b.caps; first = b.first; balances = xs; weights = b.weights }

-- the same book with other weights, or with none of its own
abbrev pub with_weights : Option (List ℕ) → Book → Book
with_weights ws b =
    record { classes = b.classes; supplies = b.supplies; caps = b.caps; first = b.first; balances = b.balances; weights = ws }

-- the seat that comes first: without a name it is seat 1
abbrev pub first_seat : Book → ℕ
first_seat b = value_or b.first 1

-- paper 02's order of the seat rule runs from the first seat up to the last of n and on from 1: the place of seat i, where those before
-- the first one come after all others. No two of n seats share a place, whatever number is named.
unfoldable pub place_from : ℕ → ℕ → ℕ → ℕ
place_from first n i = cond (ltb (i + 1) first) (n + i) i

-- paper 02's balance of a seat, the credits that it received on earlier days: without balances it is 0
abbrev pub balance_of : Book → ℕ → ℕ
balance_of b i = get_or (value_or b.balances []) i 0

-- each seat's balance
unfoldable pub balances_of : Book → List ℕ
balances_of b = table (seats b) (balance_of b)

-- paper 02's weights in force of classes 1 to 8: the book's own, if it has any, which take the place of paper 01's table
abbrev pub weights_of : Book → List ℕ
weights_of b = value_or b.weights class_weights

-- a weight of 0, which no file holds, counts as 1
abbrev pub positive : ℕ → ℕ
positive zero = 1
positive (suc x) = suc x

-- a class's weight in such a table; no file holds another class than 1 to 8: here 0 counts as class 1, and what is above 8 has weight 1
unfoldable pub weight_in : List ℕ → ℕ → ℕ
weight_in weights class = positive (get_or weights (class - 1) 1)

-- weights are those in force; heights start from the balances, so a level is balance plus total, divided by weight; the seat rule goes by
-- the order from the first seat on
unfoldable pub instance_of : Book → Instance
instance_of b =
    record {
      seats = seats b;
      windows = windows b;
      cap = cell b.caps;
      supply = λ j. get_or b.supplies j 0;
      weight = λ i. weight_in (weights_of b) (get_or b.classes i 0);
      base = balance_of b;
      position = place_from (first_seat b) (seats b);
    }

-- a sheet of the book: one cell per seat and window
abbrev pub SheetOf : Book → Grid → Type 0
SheetOf b s = Shaped (seats b) (windows b) s

-- paper 01's lawful: no cell above its cap, no window's cells together above its supply
abbrev pub Lawful : Book → Grid → Type 0
Lawful b s = Feasible (instance_of b) (cell s)

-- paper 02's idle seat: its caps are all zero
abbrev pub Idle : Book → ℕ → Type 0
Idle b i = (j : ℕ) → j < windows b → cell b.caps i j ≡ 0

-- a book without an idle seat
abbrev pub NoneIdle : Book → Type 0
NoneIdle b = (i : ℕ) → i < seats b → Idle b i → ⊥

-- the same three, as tests that compute: a sheet of the book, a lawful one, an idle seat
unfoldable pub is_sheet : Book → Grid → Bool
is_sheet b s =
    eqb (length s) (seats b) && not (is_some (lowest (seats b) (λ i. not (eqb (length (get_or s i [])) (windows b)))))

unfoldable pub is_lawful : Book → Grid → Bool
is_lawful b s =
    not (is_some (lowest (seats b) (λ i. is_some (lowest (windows b) (λ j. ltb (cell b.caps i j) (cell s i j))))))
    && not (is_some (lowest (windows b) (λ j. ltb (get_or b.supplies j 0) (placed (instance_of b) (cell s) j))))

-- the first n numbers of a row are all zero
unfoldable pub all_zero : ℕ → List ℕ → Bool
all_zero n row = not (is_some (lowest n (λ j. not (eqb (get_or row j 0) 0))))

unfoldable pub is_idle : Book → ℕ → Bool
is_idle b i = all_zero (windows b) (get_or b.caps i [])

-- each seat's total
unfoldable pub totals : Book → Grid → List ℕ
totals b s = table (seats b) (total (instance_of b) (cell s))
