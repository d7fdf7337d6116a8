-- An exchange path in memory: its moves, and one that has the fewest.
use Rattle.std.specs.Prelude.{◌≡◌, List, map, ℕ, ◌<◌, length, take}
use Rattle.fairness.specs.Instance.{Instance, Sheet}
use Rattle.fairness.specs.Exchange as fairness
use Rattle.sheet.specs.Sheets.{move_of}
use Rattle.reach.specs.declared.Graph.{Graph}
use Rattle.reach.specs.Graphs.{Reach}
use Rattle.paths.specs.declared.Path.{Path}
use Rattle.paths.specs.Steps.{Drawn}

-- the moves of an exchange path, the receiver's first: as many of its array as it counts
abbrev pub moves_of : Path → List fairness.Move
moves_of x = map move_of (take x.count x.moves)

-- an exchange path from g to l that has the fewest moves
pub record Nearest (graph : Graph) (g l : ℕ) (x : Path) : Type 0 where
  pub receiver_is : x.receiver ≡ g
  pub donor_is : x.donor ≡ l
  pub fewest : (r : ℕ) → r < x.count → Reach graph r g l → ⊥
  pub counted : length (moves_of x) ≡ x.count
  pub path : (I : Instance) (S : Sheet) → Drawn I S graph → fairness.Path I S g l (moves_of x)
