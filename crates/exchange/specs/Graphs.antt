-- The graph of a sheet.
use Rattle.std.specs.Prelude.{◌↔◌, ℕ, ◌<◌}
use Rattle.fairness.specs.Instance.{Instance, Sheet}
use Rattle.masks.specs.Sets.{In}
use Rattle.reach.specs.declared.Graph.{Graph}
use Rattle.reach.specs.Graphs.{set_at, Rows}

-- the sets of a graph are those of a sheet: the windows in which each seat is below its cap, and who has a credit in each window
pub record Shown (I : Instance) (S : Sheet) (graph : Graph) : Type 0 where
  pub rooms_are : Rows I.seats (λ k w. (w < I.windows) × (S k w < I.cap k w)) graph.rooms
  pub holders_are : (w k : ℕ) → In k (set_at graph.holders w) ↔ ((k < I.seats) × ((w < I.windows) × (0 < S k w)))
