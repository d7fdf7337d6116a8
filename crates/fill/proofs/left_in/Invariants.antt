use Rattle.std.proofs.Common.{◌≡◌, ◌+◌}
use Rattle.fairness.specs.Sums.{sum}
use Rattle.model.specs.Book.{cell}
use Rattle.fill.proofs.left_in.Given as goal

-- what is left and what the seats so far have is the supply
abbrev pub invariant-loop-row : goal.invariant-loop-row
invariant-loop-row l = sum l.row-index (λ i. cell l.grid i l.window) + l.left ≡ l.supply
