use Prim.Native.Nat.{◌-◌}
use Rattle.instance.proofs.Books.{Known}
use Rattle.instance.proofs.terms_of.Given as goal

abbrev pub invariant-loop-i : goal.invariant-loop-i
invariant-loop-i l =
    Known l.book l.first l.initial.weights l.initial.bases l.initial.positions l.i l.weights l.bases l.positions

abbrev pub decreases-loop-i : goal.decreases-loop-i
decreases-loop-i l = l.seats - l.i
