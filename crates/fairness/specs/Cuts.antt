-- Closed sets of seats, and targets: what the theorems on cuts and thresholds speak of.
use Rattle.std.specs.Prelude.{ℕ, suc}
use Rattle.fairness.specs.Sums.{sum, keep}
use Rattle.fairness.specs.Instance.{Instance, Sheet}
use Rattle.fairness.specs.Exchange.{Move, Possible}

-- a set of seats that no possible move leads out of: with a taker it has every giver
abbrev pub Closed : Instance → Sheet → (ℕ → Type 0) → Type 0
Closed I S P = (m : Move) → Possible I S m → P m.taker → P m.giver

-- a decided set of single credits, each of them a seat i and the height k that it raises; with a seat's credit it has the seat's
-- lower ones
pub record Target : Type 1 where
  pub In : ℕ → ℕ → Type 0
  pub in? : (i k : ℕ) → Dec (In i k)
  pub down : (i k : ℕ) → In i (suc k) → In i k

-- how many of the credits that bring seat i to height x are in the target
unfoldable pub count : Target → ℕ → ℕ → ℕ
count G i x = sum x (λ k. keep (G.in? i k) 1)
