-- What was read of a file with a lawful sheet: its book and that sheet. Assumes nothing.
use mathlib.Core.Path.{◌≡◌, sym, ap, ◌∙◌}
use mathlib.Core.Bool.{Bool, true, false}
use mathlib.Core.List.{List, []}
use Rattle.std.specs.Prelude.{Option, None, Some}
use Prim.Native.Nat.{ℕ}
use native.Mathlib.Omega.{arith}
use Rattle.model.specs.Lowest.{value_or}
use Rattle.model.specs.Book.{Grid, Lawful}
use Rattle.sheet.specs.Sheets.{grid_of}
use Rattle.dayfile.specs.Bounds.{Fit}
use Rattle.dayfile.specs.Layout.{book_of, marked_sheet}
use Rattle.dayfile.specs.Table.{first_of, read_lines, marker_lines, sheet_lines}
use Rattle.dayfile.specs.Memory.{cells_in, sheet_in, day_book, Reads}
use Rattle.dayfile.specs.declared.Book as Memory
use Rattle.dayfile.specs.declared.Reading.{Reading}
use Rattle.dayfile.proofs.Lines.{none-holds, none-parts}
use Rattle.dayfile.proofs.Sound.{sound}
use Rattle.dayfile.proofs.Accepted.{fits}
use Rattle.dayfile.proofs.Readings.{read-day}
use Rattle.lawful.proofs.Accepted.{accepted-lawful, has-sheet-of}

-- the sheet that is in memory, where there is one
cells_of : (m : Memory.Book) (there : Bool) (sheet s : Grid) → sheet_in m there sheet ≡ Some s → cells_in m sheet ≡ s
cells_of m true sheet s e = ap (λ (o : Option Grid). value_or o []) e
cells_of m false sheet s e = absurd (let z : ◌≡◌ {A = ℕ} 0 1 = cc in omega arith)

-- what was read of a file with a lawful sheet: its book and its sheet
module _ (f : List ℕ) (r : Reading) (reads : Reads f r) (passed : first_of (sheet_lines f) ≡ None) where
  sheet-parts : (first_of (read_lines f) ≡ None) × (first_of (marker_lines f) ≡ None)
  unfolding sheet_lines
  sheet-parts = none-parts (read_lines f) (marker_lines f) passed

  pub book-read : day_book r.day ≡ book_of f
  book-read = (read-day f r reads sheet-parts.0).0

  pub fit-read : Fit (book_of f)
  fit-read = fits f (sound f sheet-parts.0)

  pub sheet-read : cells_in r.day.book (grid_of r.day.sheet) ≡ marked_sheet f
  sheet-read =
      let s = has-sheet-of f (none-holds (marker_lines f) sheet-parts.1) in
      cells_of r.day.book r.day.has_sheet (grid_of r.day.sheet) s.0 ((read-day f r reads sheet-parts.0).1 ∙ s.1)
      ∙ ap (λ (o : Option Grid). value_or o []) (sym s.1)

  pub lawful-read : Lawful (book_of f) (marked_sheet f)
  lawful-read = accepted-lawful f (none-holds (marker_lines f) sheet-parts.1)
