use Rattle.model.specs.Book.{cell}
use Rattle.fairness.proofs.Theorems.{measure}
use Rattle.instance.specs.Terms.{instance_in}
use Rattle.fill.specs.Fills.{Full}
use Rattle.settle.proofs.settle.Given as goal

abbrev pub invariant-loop-found : goal.invariant-loop-found
invariant-loop-found l = Full (instance_in l.t l.caps) (cell l.grid)

abbrev pub decreases-loop-found : goal.decreases-loop-found
decreases-loop-found l = measure (instance_in l.t l.caps) (cell l.grid)
