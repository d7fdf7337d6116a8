use Prim.Native.Nat.{ℕ, ◌-◌}
use lib.ListN.{get_or}
use Rattle.lists.proofs.Arrays.{Filled}
use Rattle.sheet.specs.Sheets.{Added}
use Rattle.sheet.proofs.add_row.Given as goal

abbrev pub invariant-loop-j : goal.invariant-loop-j
invariant-loop-j l = Filled (λ k (x : ℕ). Added (get_or l.initial.sums k 0) (get_or l.row k 0) x) 0 24 l.windows l.initial.sums l.j l.sums

abbrev pub decreases-loop-j : goal.decreases-loop-j
decreases-loop-j l = l.windows - l.j
