-- What the search and its parts answer.
use Rattle.std.specs.Prelude.{◌≡◌, Option, None, Some, List, ℕ, ◌<◌, length}
use Rattle.reach.specs.declared.Graph.{Graph}
use Rattle.paths.specs.declared.Path.{Path}
use Rattle.paths.specs.Paths.{Nearest}
use Rattle.receiver.specs.declared.Kind.{Kind}
use Rattle.receiver.specs.declared.Kind.TheVariants.{Improving, WronglyTied}
use Rattle.receiver.specs.declared.Score.{Score}
use Rattle.receiver.specs.Donors.{Donor, NoDonor}
use Rattle.search.specs.declared.Exchange.{Exchange}
use Rattle.search.specs.declared.Pair.{Pair}

-- the first receiver that has a donor, and its lowest one
pub record FirstPair (kind : Kind) (scores : List Score) (graph : Graph) (g l : ℕ) : Type 0 where
  pub seat : g < length scores
  pub donor : Donor kind scores graph g l
  pub lowest : (k : ℕ) → k < l → Donor kind scores graph g k → ⊥
  pub earlier : (h k : ℕ) → h < g → Donor kind scores graph h k → ⊥

-- an exchange path whose receiver and donor are the first pair, and it has the fewest moves between the two
abbrev pub FirstPath : Kind → List Score → Graph → Path → Type 0
FirstPath kind scores graph x =
    FirstPair kind scores graph x.receiver x.donor × Nearest graph x.receiver x.donor x

-- a pair of a kind that is the first
abbrev pub FirstOf : Kind → List Score → Graph → Pair → Type 0
FirstOf kind scores graph p = (p.kind ≡ kind) × FirstPair kind scores graph p.receiver p.donor

-- by its kind, what an exchange is that the search finds: one that improves, or, where there is none, one that ties wrongly
abbrev pub Found : Kind → List Score → Graph → Path → Type 0
Found Improving scores graph x = FirstPath Improving scores graph x
Found WronglyTied scores graph x = NoDonor Improving scores graph × FirstPath WronglyTied scores graph x

-- what the search finds: an exchange, or that there is none of either kind
abbrev pub Finds : List Score → Graph → Option Exchange → Type 0
Finds scores graph None = NoDonor Improving scores graph × NoDonor WronglyTied scores graph
Finds scores graph (Some x) = Found x.kind scores graph x.path
