use mathlib.Core.Bool.{not}
use Prim.Native.Nat.{◌-◌}
use Rattle.dayfile.specs.Layout.{count}
use Rattle.dayfile.proofs.Search.{Searching}
use Rattle.entries.specs.Entries.{right_by}
use Rattle.entries.proofs.wrong_entry.Given as goal

abbrev pub invariant-loop-e : goal.invariant-loop-e
invariant-loop-e l = Searching (λ k. not (right_by l.test l.file k)) (count l.file) l.n l.e

abbrev pub decreases-loop-e : goal.decreases-loop-e
decreases-loop-e l = l.n - l.e
