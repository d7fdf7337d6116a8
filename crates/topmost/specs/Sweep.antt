-- The sweep over the seats of a grid, from the last one up, with a set of windows for each window.
use Rattle.std.specs.Prelude.{◌≡◌, ◌⊎◌, ◌↔◌, List, ℕ, ◌≤◌, ◌<◌}
use Rattle.fairness.specs.Instance.{Instance, Sheet}
use Rattle.fairness.specs.Raising.{Blocked}
use Rattle.masks.specs.Sets.{bit, In}
use Rattle.reach.specs.Graphs.{set_at, Through}

-- v is in the set of window w
abbrev pub Leads : List ℕ → ℕ → ℕ → Type 0
Leads sets w v = In v (set_at sets w)

-- two sets share a member
pub record Share (a b : ℕ) : Type 0 where
  pub member : ℕ
  pub of_first : In member a
  pub of_second : In member b

-- the set of a window of rooms, of those below n, has no later window that is in holds
abbrev pub Clear : ℕ → List ℕ → ℕ → ℕ → Type 0
Clear n sets rooms holds = (j w : ℕ) → j < n → In j rooms → j < w → Leads sets j w → bit holds w ≡ 0

-- a set takes in all v that have P where it shares a member with holds
abbrev pub Widened : ℕ → ℕ → (ℕ → Type 0) → ℕ → Type 0
Widened set holds P more = (v : ℕ) → In v more ↔ (In v set ⊎ (Share set holds × P v))

-- so does each of the sets below n with the sets of all windows of rooms
abbrev pub Grows : ℕ → List ℕ → ℕ → ℕ → List ℕ → Type 0
Grows n sets rooms holds more = (w : ℕ) → w < n → Widened (set_at sets w) holds (Through rooms sets) (set_at more w)

-- a mask of windows keeps cell (i, j) from being raised
pub record BlockedIn (I : Instance) (S : Sheet) (i j : ℕ) : Type 0 where
  pub mask : ℕ
  pub blocked : Blocked I (λ w. In w mask) S i j

-- each cell below its cap is blocked, of the seats from p on
abbrev pub BlockedFrom : Instance → Sheet → ℕ → Type 0
BlockedFrom I S p = (i j : ℕ) → p ≤ i → i < I.seats → j < I.windows → S i j < I.cap i j → BlockedIn I S i j

-- each cell below its cap is blocked
abbrev pub AllBlocked : Instance → Sheet → Type 0
AllBlocked I S = BlockedFrom I S 0
