use Rattle.fill.specs.Fills.{Keeps}
use Rattle.raise.proofs.raise.Given as goal

abbrev pub invariant-loop-i : goal.invariant-loop-i
invariant-loop-i l = Keeps l.size.seats l.size.windows l.caps l.initial.grid l.grid
