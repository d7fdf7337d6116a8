use Prim.Native.Nat.{◌-◌}
use Rattle.sheet.proofs.Sums.{Summed}
use Rattle.cells.proofs.Sheets.{cell_in_field}
use Rattle.cells.proofs.placed.Given as goal

abbrev pub invariant-loop-i : goal.invariant-loop-i
invariant-loop-i l = Summed (cell_in_field l.file l.at l.m l.j) l.n l.i l.total

abbrev pub decreases-loop-i : goal.decreases-loop-i
decreases-loop-i l = l.n - l.i
