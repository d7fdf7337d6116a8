-- Paper 01's lists of levels, the highest list of a book, and paper 02's standard sheet.
use Rattle.std.specs.Prelude.{◌≡◌, List, ◌⊎◌}
use Rattle.fairness.specs.Standard.{Standard}
use Rattle.fairness.specs.Leximin.{Level, NoHigher, Equal, Higher, profile}
use Rattle.model.specs.Book.{Book, Grid, SheetOf, Lawful, cell, instance_of}

-- paper 01's list of a sheet: all levels, lowest first
abbrev pub profile_of : Book → Grid → List Level
profile_of b s = profile (instance_of b) (cell s)

-- xs is the highest list of the book: the list of a lawful sheet of it, and every lawful sheet of the book has a list equal to it
-- or lower
pub record HighestList (b : Book) (xs : List Level) : Type 0 where
  pub sheet : Grid
  pub a_sheet : SheetOf b sheet
  pub lawful : Lawful b sheet
  pub its_list : profile_of b sheet ≡ xs
  pub most : (t : Grid) → SheetOf b t → Lawful b t → Equal NoHigher (profile_of b t) xs ⊎ Higher NoHigher (profile_of b t) xs

-- paper 02's standard sheet of a book: of all settled sheets the one whose cells, read seat by seat and within a seat window by window, are
-- highest in dictionary order
pub record StandardSheet (b : Book) (s : Grid) : Type 0 where
  pub a_sheet : SheetOf b s
  pub standard : Standard (instance_of b) (cell s)
