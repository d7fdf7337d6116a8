use Rattle.fill.specs.Fills.{Keeps}
use Rattle.start.proofs.scale.Given as goal

abbrev pub invariant-loop : goal.invariant-loop
invariant-loop l = Keeps l.size.seats l.size.windows l.caps l.initial.grid l.grid
