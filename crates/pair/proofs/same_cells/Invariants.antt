use Prim.Native.Nat.{◌-◌}
use Rattle.sheet.specs.Sheets.{credit}
use Rattle.pair.specs.Same.{SameCells}
use Rattle.pair.proofs.same_cells.Given as goal

abbrev pub invariant-loop-i : goal.invariant-loop-i
invariant-loop-i l = SameCells l.i l.windows (credit l.a) (credit l.b)

abbrev pub decreases-loop-i : goal.decreases-loop-i
decreases-loop-i l = l.seats - l.i
