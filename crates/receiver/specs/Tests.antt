-- Which exchange paths are wanted, by the scores in memory.
use Rattle.std.specs.Prelude.{◌≡◌, Bool, true, List, ℕ, ◌<◌, length, get_or}
use Rattle.std.proofs.Common.{lit≤}
use Rattle.fairness.specs.Exchange.{improves, ties_wrongly}
use Rattle.receiver.specs.declared.Score.{Score}
use Rattle.receiver.specs.declared.Kind.{Kind}
use Rattle.receiver.specs.declared.Kind.TheVariants.{Improving, WronglyTied}

-- the test of a receiver and a donor by their scores: for a path that improves, and for one that ties wrongly
abbrev pub test_by : Kind → Score → Score → Bool
test_by Improving r d = improves r.height r.weight d.height d.weight
test_by WronglyTied r d = ties_wrongly r.height r.weight r.position d.height d.weight d.position

-- what a seat past the last one counts as
abbrev pub no_score : Score
no_score = record {
  height = 0;
  weight = 1;
  position = 0;
  moderate = record { height_most = lit≤ tt; weight_least = lit≤ tt; weight_most = lit≤ tt };
}

-- a seat's score
abbrev pub score_at : List Score → ℕ → Score
score_at scores i = get_or scores i no_score

-- l is a donor that is wanted for the receiver g
abbrev pub Wants : Kind → List Score → ℕ → ℕ → Type 0
Wants kind scores g l = (l < length scores) × (test_by kind (score_at scores g) (score_at scores l) ≡ true)
