use mathlib.Core.Bool.{Bool}
use mathlib.Core.List.{List}
use Prim.Native.Nat.{ℕ, ◌-◌}
use lib.Dec.{eqb}
use Rattle.dayfile.specs.Layout.{count, kind}
use Rattle.dayfile.proofs.Search.{Searching}
use Rattle.fields.proofs.entry_of.Given as goal

abbrev pub is_kind : List ℕ → ℕ → ℕ → Bool
is_kind f k e = eqb (kind f e) k

abbrev pub invariant-loop-e : goal.invariant-loop-e
invariant-loop-e l = Searching (is_kind l.file l.k) (count l.file) l.n l.e

abbrev pub decreases-loop-e : goal.decreases-loop-e
decreases-loop-e l = l.n - l.e
