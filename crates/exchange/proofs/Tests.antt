-- Which exchange paths are wanted, and the scores in memory that tell.
use mathlib.Core.Path.{◌≡◌}
use mathlib.Core.Bool.{Bool}
use mathlib.Core.List.{List}
use Prim.Native.Nat.{ℕ, ◌<◌}
use Rattle.fairness.specs.Instance.{Instance, Sheet, height}
use Rattle.fairness.specs.Exchange.{improves_at, ties_at}
use Rattle.receiver.specs.declared.Kind.{Kind}
use Rattle.receiver.specs.declared.Kind.TheVariants.{Improving, WronglyTied}
use Rattle.receiver.specs.declared.Score.{Score}
use Rattle.receiver.specs.Tests.{score_at}

-- the test of a receiver and a donor: paper 01's mark 2 asks for paths that improve, mark 3 for paths that tie wrongly
abbrev pub test_of : Kind → Instance → Sheet → ℕ → ℕ → Bool
test_of Improving I S g l = improves_at I S g l
test_of WronglyTied I S g l = ties_at I S g l

-- the scores are the heights, weights and positions of an instance and a sheet
pub record Scored (I : Instance) (S : Sheet) (scores : List Score) : Type 0 where
  pub heights_are : (i : ℕ) → i < I.seats → height I S i ≡ (score_at scores i).height
  pub weights_are : (i : ℕ) → i < I.seats → I.weight i ≡ (score_at scores i).weight
  pub positions_are : (i : ℕ) → i < I.seats → I.position i ≡ (score_at scores i).position
