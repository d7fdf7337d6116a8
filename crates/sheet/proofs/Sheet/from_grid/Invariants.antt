use mathlib.Core.Path.{◌≡◌}
use mathlib.Core.List.{[]}
use Prim.Native.Nat.{◌-◌}
use lib.ListN.{get_or}
use Rattle.lists.proofs.Arrays.{Filled}
use Rattle.sheet.specs.Sheets.{grid_of}
use Rattle.sheet.proofs.Sheet.from_grid.Given as goal

abbrev pub invariant-loop-i : goal.invariant-loop-i
invariant-loop-i l = Filled (λ k row. row ≡ get_or l.grid k []) [] 32 32 (grid_of l.initial.sheet) l.i (grid_of l.sheet)

abbrev pub decreases-loop-i : goal.decreases-loop-i
decreases-loop-i l = 32 - l.i
