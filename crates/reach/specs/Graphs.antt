-- Who can take a credit from whom, as sets of seats, and what a receiver reaches. A list of sets has a mask at each index, and past
-- its end the empty set.
use Rattle.std.specs.Prelude.{◌≡◌, ◌⊎◌, ◌↔◌, List, ℕ, zero, suc, ◌<◌, get_or}
use Rattle.masks.specs.Sets.{bit, In, Within}
use Rattle.reach.specs.declared.Graph.{Graph}
use Rattle.reach.specs.declared.Wave.{Wave}

-- the set at an index of a list of sets
abbrev pub set_at : List ℕ → ℕ → ℕ
set_at sets i = get_or sets i 0

-- a set has exactly the numbers below n that have P
abbrev pub Collects : ℕ → (ℕ → Type 0) → ℕ → Type 0
Collects n P set = (i : ℕ) → In i set ↔ ((i < n) × P i)

-- the sets below n are the rows of a relation P, and the others are empty
abbrev pub Rows : ℕ → (ℕ → ℕ → Type 0) → List ℕ → Type 0
Rows n P sets = (i k : ℕ) → In k (set_at sets i) ↔ ((i < n) × P i k)

-- via is a member of a set, and l is in the set at via
pub record Leads (set : ℕ) (sets : List ℕ) (l via : ℕ) : Type 0 where
  pub member : In via set
  pub leads : In l (set_at sets via)

-- l is in the set at some member of a set
pub record Through (set : ℕ) (sets : List ℕ) (l : ℕ) : Type 0 where
  pub via : ℕ
  pub here : Leads set sets l via

-- all is the union of the sets at the members of a set
pub record UnionOver (set : ℕ) (sets : List ℕ) (all : ℕ) : Type 0 where
  pub sound : (l : ℕ) → In l all → Through set sets l
  pub whole : (l : ℕ) → Through set sets l → In l all

-- ---- what a receiver reaches

-- k can take a credit from l: l holds one in a window in which k has room
abbrev pub Takes : Graph → ℕ → ℕ → Type 0
Takes graph k l = Through (set_at graph.rooms k) graph.holders l

-- at most r moves lead from g to l: l is reached in fewer, or by a last move, with l the giver, from a seat that fewer reach
abbrev pub Reach : Graph → ℕ → ℕ → ℕ → Type 0
Reach graph zero g l = g ≡ l
Reach graph (suc r) g l = Reach graph r g l ⊎ ((k : ℕ) × (Reach graph r g k × Takes graph k l))

-- some number of moves leads from g to l
abbrev pub Reached : Graph → ℕ → ℕ → Type 0
Reached graph g l = (r : ℕ) × Reach graph r g l

-- a set is what at most r moves reach from g
abbrev pub Layer : Graph → ℕ → ℕ → ℕ → Type 0
Layer graph g r set = (l : ℕ) → In l set ↔ Reach graph r g l

-- ---- the search outward

-- After n moves out from g: what they reach is seen. Whoever was seen and is not in front has room in windows alone that were looked into,
-- and who holds a credit in a window that was looked into was seen.
pub record Spread (graph : Graph) (g n : ℕ) (wave : Wave) : Type 0 where
  pub layer : Layer graph g n wave.seen
  pub within : Within wave.front wave.seen
  pub looked : (i v : ℕ) → In i wave.seen → bit wave.front i ≡ 0 → In v (set_at graph.rooms i) → bit wave.windows v ≡ 0
  pub shut : (v l : ℕ) → bit wave.windows v ≡ 0 → In l (set_at graph.holders v) → In l wave.seen
  pub few : (v : ℕ) → In v wave.windows → v < 24

-- what was seen stays so, and what comes in front was not seen before
pub record Grown (before after : Wave) : Type 0 where
  pub more : Within before.seen after.seen
  pub new : (l : ℕ) → In l after.front → (bit before.seen l ≡ 0) × In l after.seen
