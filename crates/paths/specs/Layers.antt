-- What each number of moves reaches from a receiver, and sets that share a member.
use Rattle.std.specs.Prelude.{◌≡◌, List, ℕ, ◌<◌}
use Rattle.masks.specs.Sets.{bit, In}
use Rattle.reach.specs.declared.Graph.{Graph}
use Rattle.reach.specs.Graphs.{set_at, Layer}

-- i is a member of a set, and its own set shares a member with another
pub record Meets (set : ℕ) (sets : List ℕ) (other i : ℕ) : Type 0 where
  pub member : In i set
  pub shared : ℕ
  pub own : In shared (set_at sets i)
  pub others : In shared other

-- the set at each number of moves up to 31 is what so many moves at most reach from g
abbrev pub Layers : Graph → ℕ → List ℕ → Type 0
Layers graph g sets = (r : ℕ) → r < 32 → Layer graph g r (set_at sets r)

-- r is the least index of a set that has l
pub record Fewest (sets : List ℕ) (l r : ℕ) : Type 0 where
  pub small : r < 32
  pub here : In l (set_at sets r)
  pub least : (q : ℕ) → q < r → bit (set_at sets q) l ≡ 0
