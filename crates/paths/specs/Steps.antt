-- What the search for a shortest path answers, and what its parts do.
use Rattle.std.specs.Prelude.{◌≡◌, List, map, ◌↔◌, ℕ, length, take}
use Rattle.fairness.specs.Instance.{Instance, Sheet}
use Rattle.fairness.specs.Exchange as fairness
use Rattle.sheet.specs.declared.Move.{Move}
use Rattle.sheet.specs.Sheets.{move_of}
use Rattle.masks.specs.Sets.{In}
use Rattle.reach.specs.declared.Graph.{Graph}
use Rattle.reach.specs.Graphs.{set_at, Leads, Takes}
use Rattle.paths.specs.Layers.{Layers}

-- the graph shows the moves that are possible: the taker has room in the window, and the giver holds a credit there
abbrev pub Drawn : Instance → Sheet → Graph → Type 0
Drawn I S graph = (k l w : ℕ) →
    Leads (set_at graph.rooms k) graph.holders l w ↔ fairness.Possible I S (record { window = w; giver = l; taker = k })

-- giver gives to some member of a set
abbrev pub Gives : Graph → ℕ → ℕ → Type 0
Gives graph set giver = (k : ℕ) × (In k set × Takes graph k giver)

-- a move by which it does
pub record GivesBy (graph : Graph) (set giver : ℕ) (m : Move) : Type 0 where
  pub giver_is : m.giver ≡ giver
  pub taker_in : In m.taker set
  pub shown : Leads (set_at graph.rooms m.taker) graph.holders giver m.window

-- the first moves of an array are a path to a donor, from the seat whose layers the sets are
pub record Leading (graph : Graph) (sets : List ℕ) (donor count : ℕ) (moves : List Move) : Type 0 where
  pub counted : length (map move_of (take count moves)) ≡ count
  pub path : (I : Instance) (S : Sheet) (g : ℕ) → Drawn I S graph → Layers graph g sets →
      fairness.Path I S g donor (map move_of (take count moves))
