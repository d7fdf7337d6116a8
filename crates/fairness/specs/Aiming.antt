-- How a sheet with wanted totals is found, or a group that wants more than it can get.
use Rattle.std.specs.Prelude.{◌≡◌, ℕ, min, ◌-◌}
use Rattle.std.proofs.Math.Decide.{ℕ_discrete}
use Rattle.fairness.specs.Sums.{sum}
use Rattle.fairness.specs.Instance.{Instance, Sheet}

-- the group of one seat
abbrev pub only : (i k : ℕ) → Dec (k ≡ i)
only i k = ℕ_discrete k i

-- the instance whose heights say what is missing: with every weight 1, a seat that wants at most M is at height M just where it has what it
-- wants
abbrev pub aimed : Instance → (ℕ → ℕ) → ℕ → Instance
aimed I want M =
    record {
      seats = I.seats;
      windows = I.windows;
      cap = I.cap;
      supply = I.supply;
      weight = λ i. 1;
      base = λ i. M - want i;
      position = λ i. i;
    }

-- each row's first credits, as many as are wanted: a cell keeps what the windows before it leave of the want
unfoldable pub trim : (ℕ → ℕ) → Sheet → Sheet
trim want S i j = min (S i j) (want i - sum j (S i))
