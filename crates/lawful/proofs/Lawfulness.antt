-- A sheet in memory that was seen to be lawful: no line of the marker's holds of its file. Assumes nothing.
use mathlib.Core.Path.{◌≡◌, refl, sym, ap, ◌∙◌}
use mathlib.Core.Bool.{Bool, true}
use mathlib.Core.List.{List}
use Rattle.std.specs.Prelude.{None, Some}
use Prim.Native.Nat.{ℕ, ◌≤◌, ◌<◌}
use native.Mathlib.Omega.{arith}
use lib.ListN.{get_or}
use Rattle.fairness.specs.Sums.{sum}
use Rattle.fairness.proofs.Sums.{sum-eq}
use Rattle.model.specs.Book.{Lawful, cell, instance_of}
use Rattle.dayfile.specs.Table.{first_of, read_lines, sheet_lines}
use Rattle.dayfile.specs.Outcome.{answer, read_file}
use Rattle.dayfile.specs.Memory.{book_in, day_book, day_sheet, sheet_in, Reads}
use Rattle.dayfile.specs.declared.Book as Memory
use Rattle.dayfile.specs.declared.Check.TheVariants.{Sound}
use Rattle.dayfile.specs.declared.Reading.{Reading}
use Rattle.dayfile.proofs.Held.{seats-in, windows-in}
use Rattle.dayfile.proofs.Readings.{read-sound, read-day, read_fits}
use Rattle.sheet.specs.declared.Sheet.{Sheet}
use Rattle.sheet.specs.Sheets.{credit, grid_of}
use Rattle.sheet.proofs.Cells.{credit-cell}
use Rattle.dayfile.specs.Memory.{cells_in}
use Rattle.dayfile.proofs.Used.{credit-in, cap-in, supply_in, range-in}
use Rattle.lawful.proofs.Taken.{sheet-free}

-- from the arrays to the book and the sheet
pub lawful-in : (m : Memory.Book) (caps sheet : Sheet) (given : List ℕ) →
    ((i j : ℕ) → i < m.seats → j < m.windows → credit sheet i j ≤ credit caps i j) →
    ((j : ℕ) → j < m.windows → get_or given j 0 ≡ sum m.seats (λ i. credit sheet i j)) →
    ((j : ℕ) → j < m.windows → get_or given j 0 ≤ get_or m.supplies j 0) → Lawful (book_in m (grid_of caps)) (cells_in m (grid_of sheet))
unfolding instance_of
lawful-in m caps sheet given within sums fits =
    let n = seats-in m (grid_of caps) in
    let k = windows-in m (grid_of caps) in
    record {
      within = λ i j li lj.
          let i-in : i < m.seats = omega arith in
          let j-in : j < m.windows = omega arith in
          omega (arith, within i j i-in j-in, credit-in m sheet i j i-in j-in, cap-in m (grid_of caps) i j i-in j-in, credit-cell caps i j);
      fits = λ j lj.
          let j-in : j < m.windows = omega arith in
          let all = ap (λ (x : ℕ). sum x (λ i. cell (cells_in m (grid_of sheet)) i j)) n
          ∙ sum-eq m.seats _ _ (λ i li. credit-in m sheet i j li j-in) in
          omega (arith, fits j j-in, sums j j-in, all, supply_in m (grid_of caps) j j-in);
    }

-- from what was read to the file
module _ (f : List ℕ) (r : Reading) (reads : Reads f r) (sound : r.check ≡ Sound) where
  free : first_of (read_lines f) ≡ None
  free = read-sound f r reads sound

  pub in-range : (r.day.book.seats ≤ 32) × (r.day.book.windows ≤ 24)
  in-range = range-in r.day.book (grid_of r.day.caps) (read_fits f r reads free)

  pub none-lawful : r.day.has_sheet ≡ true → Lawful (day_book r.day) (cells_in r.day.book (grid_of r.day.sheet)) →
      first_of (sheet_lines f) ≡ None
  unfolding read_file
  none-lawful there lawful =
      let day = read-day f r reads free in
      let sheet : Some (cells_in r.day.book (grid_of r.day.sheet)) ≡ day_sheet r.day =
      ap (λ (t : Bool). sheet_in r.day.book t (grid_of r.day.sheet)) (sym there) in
      let read : read_file f ≡ answer (day_book r.day, Some (cells_in r.day.book (grid_of r.day.sheet))) =
      rw (free, sheet ∙ day.1, day.0) refl in
      sheet-free f _ _ read lawful
