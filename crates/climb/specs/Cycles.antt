-- Cycles of moves in memory, what the search for them answers, and how far a grid is raised.
use Rattle.std.specs.Prelude.{◌≡◌, Option, None, Some, List, ◌∷◌, ℕ}
use Rattle.fairness.specs.Instance.{Instance, Sheet}
use Rattle.fairness.specs.Exchange.{Move, Settled}
use Rattle.fairness.specs.Raising.{Topmost, TopBefore, Raises}
use Rattle.masks.specs.Sets.{In}
use Rattle.sheet.specs.Sheets.{move_of}
use Rattle.reach.specs.declared.Graph.{Graph}
use Rattle.reach.specs.Graphs.{set_at, Reached}
use Rattle.paths.specs.Paths.{moves_of, Nearest}
use Rattle.exchange.specs.Paths.{Writable}
use Rattle.climb.specs.declared.Cycle.{Cycle}

-- ---- on a graph

-- a cycle that closes in window q: its path leads from seat i to a seat that has room there
pub record ClosesIn (graph : Graph) (i q : ℕ) (c : Cycle) : Type 0 where
  pub giver_is : c.closing.giver ≡ i
  pub window_is : c.closing.window ≡ q
  pub room : In q (set_at graph.rooms c.closing.taker)
  pub path : Nearest graph i c.closing.taker c.path

-- a cycle that closes in one of the goals, or that there is none
abbrev pub CycleIn : Graph → ℕ → ℕ → Option Cycle → Type 0
CycleIn graph i goals (Some c) = (q : ℕ) × (In q goals × ClosesIn graph i q c)
CycleIn graph i goals None = (l q : ℕ) → Reached graph i l → In q (set_at graph.rooms l) → In q goals → ⊥

-- ---- on a grid

-- the moves of a cycle, the closing move first
abbrev pub cycle_moves : Cycle → List Move
cycle_moves c = move_of c.closing ∷ moves_of c.path

-- a cycle that raises cell (i, j)
pub record Raising (I : Instance) (S : Sheet) (i j : ℕ) (c : Cycle) : Type 0 where
  pub giver_is : c.closing.giver ≡ i
  pub raises : Raises I S i j c.closing.taker c.closing.window (moves_of c.path)
  pub writable : Writable c.path

-- a cycle that raises it, or that nothing does
abbrev pub Finds : Instance → Sheet → ℕ → ℕ → Option Cycle → Type 0
Finds I S i j (Some c) = Raising I S i j c
Finds I S i j None = Topmost I S i j

-- settled, and every cell that is read before cell (i, j) is topmost
pub record Climbed (I : Instance) (S : Sheet) (i j : ℕ) : Type 0 where
  pub settled : Settled I S
  pub before : TopBefore I S i j
