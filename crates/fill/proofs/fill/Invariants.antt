use Rattle.fill.proofs.Filling.{Upto}
use Rattle.fill.proofs.fill.Given as goal

abbrev pub invariant-loop-w : goal.invariant-loop-w
invariant-loop-w l = Upto l.t.seats l.caps l.t.supplies l.initial.grid l.w l.grid
