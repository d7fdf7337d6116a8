-- The profile of a sheet in memory is that of the sheet that it holds. Assumes nothing.
use mathlib.Core.Path.{◌≡◌, ap, ◌∙◌}
use mathlib.Core.List.{List}
use native.Mathlib.Omega.{arith}
use Rattle.fairness.specs.Leximin.{levels, profile}
use Rattle.fairness.proofs.Alike.{alike-profile}
use Rattle.model.specs.Book.{Grid, cell, instance_of}
use Rattle.model.specs.Fair.{profile_of}
use Rattle.sheet.specs.declared.Sheet.{Sheet}
use Rattle.sheet.specs.Sheets.{credit, grid_of}
use Rattle.sheet.proofs.Cells.{credit-is}
use Rattle.dayfile.specs.Memory.{book_in, cells_in}
use Rattle.dayfile.specs.declared.Book as Memory
use Rattle.dayfile.proofs.Used.{cell_in}
use Rattle.dayfile.proofs.Held.{seats-in, windows-in}
use Rattle.instance.specs.declared.Terms.{Terms}
use Rattle.instance.specs.Terms.{instance_in, Told}
use Rattle.instance.proofs.Told.{shown-alike}
use Rattle.leximin.specs.declared.Level as memory
use Rattle.leximin.specs.Levels.{list_in}
use Rattle.profile.specs.Profiles.{Says}

module _ (m : Memory.Book) (t : Terms) (caps : Grid) (told : Told (instance_of (book_in m caps)) t caps) where
  pub list_is : (sheet : Sheet) (ls : List memory.Level) → Says profile t (credit sheet) ls →
      list_in t.seats ls ≡ profile_of (book_in m caps) (cells_in m (grid_of sheet))
  unfolding profile levels instance_of
  list_is sheet ls says =
      says.list_is ∙ ap (profile (instance_in t caps)) (credit-is sheet)
      ∙ alike-profile (instance_in t caps) (instance_of (book_in m caps)) (cell (grid_of sheet)) (cell (cells_in m (grid_of sheet)))
      (shown-alike t caps (instance_of (book_in m caps)) told (cell (cells_in m (grid_of sheet))) (grid_of sheet)
      (λ i j li lj.
      cell_in m (grid_of sheet) i j (omega (arith, told.seats_are, seats-in m caps)) (omega (arith, told.windows_are, windows-in m caps))))
