-- The donors that are wanted for a receiver, as sets. Assumes nothing.
use mathlib.Core.Path.{◌≡◌}
use mathlib.Core.Bool.{true}
use mathlib.Core.List.{List}
use mathlib.Core.Logic.{◌↔◌}
use Prim.Native.Nat.{ℕ, ◌≤◌, ◌<◌}
use Rattle.std.specs.Prelude.{Option, None, Some, MatchOption}
use lib.ListN.{length}
use native.Mathlib.Numerals.{unary_clauses}
use native.Mathlib.Omega.{arith}
use Rattle.fairness.specs.Sums.{sum}
use Rattle.fairness.specs.Instance.{Instance}
use Rattle.fairness.specs.Exchange.{improves_at, ties_at}
use Rattle.fairness.proofs.Theorems.{improves-apart, ties-apart}
use Rattle.masks.specs.Sets.{bit, In}
use Rattle.reach.specs.declared.Graph.{Graph}
use Rattle.reach.proofs.Members.{out-zero}
use Rattle.receiver.specs.declared.Kind.{Kind}
use Rattle.receiver.specs.declared.Kind.TheVariants.{Improving, WronglyTied}
use Rattle.receiver.specs.declared.Score.{Score}
use Rattle.receiver.specs.Tests.{test_by, score_at, Wants}
use Rattle.receiver.specs.Donors.{Donor, NoDonor, First}

-- scores are those of some instance
abbrev scored_by : List Score → Instance
scored_by scores =
    record {
      seats = 32;
      windows = 0;
      cap = λ i w. 0;
      supply = λ w. 0;
      weight = λ i. (score_at scores i).weight;
      base = λ i. (score_at scores i).height;
      position = λ i. (score_at scores i).position;
    }

-- so no seat wants itself
self-unwanted : (kind : Kind) (scores : List Score) (g : ℕ) → test_by kind (score_at scores g) (score_at scores g) ≡ true → ⊥
unfolding sum improves_at ties_at
self-unwanted Improving scores g e = improves-apart (scored_by scores) (λ i w. 0) g (simp unary_clauses e)
self-unwanted WronglyTied scores g e = ties-apart (scored_by scores) (λ i w. 0) g (simp unary_clauses e)

pub apart : (kind : Kind) (scores : List Score) (g wanted : ℕ) → ((l : ℕ) → In l wanted ↔ Wants kind scores g l) → bit wanted g ≡ 0
apart kind scores g wanted wants = out-zero wanted g (λ p. self-unwanted kind scores g ((wants g).0 p).1)

-- the first number that has a donor
module _ (kind : Kind) (scores : List Score) (graph : Graph) where
  abbrev pub HasDonor : ℕ → Type 0
  HasDonor g = (l : ℕ) × Donor kind scores graph g l

  abbrev pub HasNone : ℕ → Type 0
  HasNone g = (l : ℕ) → Donor kind scores graph g l → ⊥

  pub first-is : (found : Option ℕ)
      → MatchOption found ((g : ℕ) → 0 ≤ g → g < length scores → HasNone g)
      (λ g. (0 ≤ g) × (g < length scores) × HasDonor g × ((h : ℕ) → 0 ≤ h → h < g → HasNone h))
      → MatchOption found (NoDonor kind scores graph) (First kind scores graph)
  first-is None h = λ g l b d. h g (omega arith) b l d
  first-is (Some g) h = record { seat = h.1; some = h.2; earlier = λ a l b d. h.3 a (omega arith) b l d }
