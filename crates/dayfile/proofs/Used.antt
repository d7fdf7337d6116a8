-- The used entries of a book and a sheet in memory. Assumes nothing.
use mathlib.Core.Path.{◌≡◌, sym, ap, ◌∙◌}
use mathlib.Core.Bool.{true}
use mathlib.Core.List.{List, []}
use Prim.Native.Nat.{ℕ, ◌≤◌, ◌<◌}
use native.Mathlib.Omega.{arith}
use lib.ListN.{length, get_or}
use Rattle.model.specs.Book.{Grid, cell}
use Rattle.dayfile.specs.Bounds.{Fit}
use Rattle.dayfile.specs.Table.{planned_length}
use Rattle.dayfile.specs.Memory.{sized_grid, book_in, cells_in, file_with}
use Rattle.dayfile.specs.declared.Book as Memory
use Rattle.dayfile.proofs.Tables.{sized-at, sized_row}
use Rattle.dayfile.proofs.Held.{seats-in, windows-in, book-shaped, sheet-shaped}
use Rattle.dayfile.proofs.Lengths.{planned-length}
use Rattle.sheet.specs.declared.Sheet.{Sheet}
use Rattle.sheet.specs.Sheets.{credit, grid_of}
use Rattle.sheet.proofs.Cells.{credit-cell}

-- a cell of a grid that is cut to size
sized-cell : (n m : ℕ) (g : Grid) (i j : ℕ) → i < n → j < m → cell (sized_grid n m g) i j ≡ cell g i j
sized-cell n m g i j li lj = ap (λ (r : List ℕ). get_or r j 0) (sized_row n m g i li) ∙ sized-at m (get_or g i []) j lj

module _ (m : Memory.Book) where
  pub cell_in : (grid : Grid) (i j : ℕ) → i < m.seats → j < m.windows → cell (cells_in m grid) i j ≡ cell grid i j
  cell_in grid i j li lj = sized-cell m.seats m.windows grid i j li lj

  pub credit-in : (sheet : Sheet) (i j : ℕ) → i < m.seats → j < m.windows → cell (cells_in m (grid_of sheet)) i j ≡ credit sheet i j
  credit-in sheet i j li lj = cell_in (grid_of sheet) i j li lj ∙ sym (credit-cell sheet i j)

  module _ (caps : Grid) where
    pub cap-in : (i j : ℕ) → i < m.seats → j < m.windows → cell (book_in m caps).caps i j ≡ cell caps i j
    unfolding book_in
    cap-in i j li lj = sized-cell m.seats m.windows caps i j li lj

    pub supply_in : (j : ℕ) → j < m.windows → get_or (book_in m caps).supplies j 0 ≡ get_or m.supplies j 0
    unfolding book_in
    supply_in j lj = sized-at m.windows m.supplies j lj

    pub class-in : (i : ℕ) → i < m.seats → get_or (book_in m caps).classes i 0 ≡ get_or m.classes i 0
    unfolding book_in
    class-in i li = sized-at m.seats m.classes i li

    -- a book that fits has a small number of seats and windows
    pub range-in : Fit (book_in m caps) → (m.seats ≤ 32) × (m.windows ≤ 24)
    range-in fit = (omega (arith, seats-in m caps, fit.seats_high), omega (arith, windows-in m caps, fit.windows_high))

    -- the length of a planned file does not hang on the cells of its sheet
    pub planned-size : (sheet : Grid) → length (file_with m caps true sheet) ≡ planned_length (book_in m caps)
    unfolding file_with
    planned-size sheet = planned-length (book_in m caps) (cells_in m sheet) (book-shaped m caps) (sheet-shaped m caps true sheet)
