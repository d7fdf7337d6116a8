-- Receivers that reach a donor which is wanted for them.
use Rattle.std.specs.Prelude.{List, ℕ, ◌<◌, length}
use Rattle.reach.specs.declared.Graph.{Graph}
use Rattle.reach.specs.Graphs.{Reached}
use Rattle.receiver.specs.declared.Kind.{Kind}
use Rattle.receiver.specs.declared.Score.{Score}
use Rattle.receiver.specs.Tests.{Wants}

-- g reaches l, a donor that is wanted for it
abbrev pub Donor : Kind → List Score → Graph → ℕ → ℕ → Type 0
Donor kind scores graph g l = Reached graph g l × Wants kind scores g l

-- no receiver has one
abbrev pub NoDonor : Kind → List Score → Graph → Type 0
NoDonor kind scores graph = (g l : ℕ) → g < length scores → Donor kind scores graph g l → ⊥

-- the first receiver that has a donor
pub record First (kind : Kind) (scores : List Score) (graph : Graph) (g : ℕ) : Type 0 where
  pub seat : g < length scores
  pub some : (l : ℕ) × Donor kind scores graph g l
  pub earlier : (h k : ℕ) → h < g → Donor kind scores graph h k → ⊥
