-- Paper 02's wanted totals: a sheet that gives them, and a group of seats that wants more than it can get.
use Rattle.std.specs.Prelude.{◌≡◌, ℕ, ◌<◌}
use Rattle.fairness.specs.Sums.{over}
use Rattle.fairness.specs.Instance.{Instance, Sheet, Feasible, total, group_capacity}

module _ (I : Instance) (want : ℕ → ℕ) where
  -- a feasible sheet with just the wanted totals
  pub record Grants (S : Sheet) : Type 0 where
    pub feasible : Feasible I S
    pub exact : (i : ℕ) → i < I.seats → total I S i ≡ want i

  -- a group of seats wants more than it can get: its wants together are above its capacity, paper 000's cap(I, A')
  abbrev pub WantsMore : {P : ℕ → Type 0} → ((i : ℕ) → Dec (P i)) → Type 0
  WantsMore in? = group_capacity I in? < over in? I.seats want

  -- some group does
  pub record Overasked : Type 1 where
    pub Group : ℕ → Type 0
    pub in? : (i : ℕ) → Dec (Group i)
    pub more : WantsMore in?
