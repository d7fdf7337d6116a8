-- How far a search along exchange paths has come: the seats that a receiver reaches, in layers by the number of moves.
use Rattle.std.specs.Prelude.{◌≡◌, ◌⊎◌, ℕ, zero, suc, ◌<◌}
use Rattle.fairness.specs.Instance.{Instance, Sheet}
use Rattle.fairness.specs.Exchange.{Possible}

module _ (I : Instance) (S : Sheet) where
  -- in some window a move from giver k to taker i is possible
  pub record Edge (i k : ℕ) : Type 0 where
    pub window : ℕ
    pub possible : Possible I S (record { window = window; giver = k; taker = i })

  -- at most r moves lead from g to l: l is reached in fewer, or by a last move, with l the giver, from a seat that fewer reach
  abbrev pub Within : ℕ → ℕ → ℕ → Type 0
  Within zero g l = g ≡ l
  Within (suc r) g l = Within r g l ⊎ ((k : ℕ) × (k < I.seats) × (Within r g k × Edge k l))
