-- What the steps to a sheet with the wanted totals, or to a group, hand to each other. A group is a set of seats; the empty one stands for
-- none.
use Rattle.std.specs.Prelude.{◌↔◌, ℕ, zero, suc, min, ◌≤◌, ◌<◌}
use Rattle.fairness.specs.Sums.{sum}
use Rattle.fairness.specs.Instance.{Instance, Sheet, Feasible, total}
use Rattle.fairness.specs.Layers.{Within}
use Rattle.masks.specs.Sets.{In}

-- what holds of a group, and what holds where there is none
abbrev pub IfGroup : ℕ → (some none : Type 0) → Type 0
IfGroup zero some none = none
IfGroup (suc k) some none = some

-- no seat wants more than it can get alone
abbrev pub NoneAlone : Instance → (ℕ → ℕ) → Type 0
NoneAlone I wants = (i : ℕ) → i < I.seats → wants i ≤ sum I.windows (λ j. min (I.supply j) (I.cap i j))

-- every seat has what it wants or more
abbrev pub NoneShort : Instance → Sheet → (ℕ → ℕ) → Type 0
NoneShort I S wants = (i : ℕ) → i < I.seats → wants i ≤ total I S i

-- a group is all that a seat reaches that has less than it wants
pub record Reaches (I : Instance) (S : Sheet) (wants : ℕ → ℕ) (group : ℕ) : Type 0 where
  pub seat : ℕ
  pub in_seats : seat < I.seats
  pub short : total I S seat < wants seat
  pub reached : (l : ℕ) → In l group ↔ ((r : ℕ) × Within I S r seat l)

-- a feasible sheet on which every seat has what it wants or more
pub record Enough (I : Instance) (S : Sheet) (wants : ℕ → ℕ) : Type 0 where
  pub feasible : Feasible I S
  pub none_short : NoneShort I S wants
