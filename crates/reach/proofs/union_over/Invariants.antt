use Rattle.reach.proofs.Unions.{Passed}
use Rattle.reach.proofs.union_over.Given as goal

abbrev pub invariant-loop-i : goal.invariant-loop-i
invariant-loop-i l = Passed l.set l.sets l.i-iterator.left l.all
