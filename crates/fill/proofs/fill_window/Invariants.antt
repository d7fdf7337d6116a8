use Rattle.fill.proofs.Filling.{Filling}
use Rattle.fill.proofs.fill_window.Given as goal

abbrev pub invariant-loop-i : goal.invariant-loop-i
invariant-loop-i l = Filling l.seats l.window l.caps l.supply l.initial.grid l.i l.left l.grid
