use Prim.Native.Nat.{◌-◌}
use mathlib.Core.Path.{◌≡◌}
use mathlib.Core.List.{[]}
use lib.ListN.{get_or}
use Rattle.lists.proofs.Arrays.{Filled}
use Rattle.sheet.specs.Sheets.{grid_of}
use Rattle.sheet.proofs.Sheet.to_grid.Given as goal

abbrev pub invariant-loop-i : goal.invariant-loop-i
invariant-loop-i l = Filled (λ k row. row ≡ get_or (grid_of l.self) k []) [] 32 32 l.initial.grid l.i l.grid

abbrev pub decreases-loop-i : goal.decreases-loop-i
decreases-loop-i l = 32 - l.i
