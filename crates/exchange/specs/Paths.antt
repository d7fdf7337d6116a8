-- What the search for exchange paths answers.
use Rattle.std.specs.Prelude.{◌≡◌, Bool, true, false, Option, None, Some, List, ℕ, ◌≤◌, ◌<◌, length}
use Rattle.fairness.specs.Instance.{Instance, Sheet}
use Rattle.fairness.specs.Exchange.{Move, All, Path, improves_at, ties_at, Improvable, Tied}
use Rattle.paths.specs.declared.Path as memory
use Rattle.paths.specs.Paths.{moves_of}
use Rattle.receiver.specs.declared.Kind.{Kind}
use Rattle.receiver.specs.declared.Kind.TheVariants.{Improving, WronglyTied}
use Rattle.search.specs.declared.Exchange.{Exchange}

-- a move whose window, giver and taker, counted from 1, fit a byte each
pub record InByte (m : Move) : Type 0 where
  pub window : m.window < 24
  pub giver : m.giver < 32
  pub taker : m.taker < 32

-- an exchange path that can be written
pub record Writable (x : memory.Path) : Type 0 where
  pub counted : length (moves_of x) ≡ x.count
  pub small : All InByte (moves_of x)

-- what paper 01's rule picks for a test: the first receiver g (gainer) that has a path which passes, its lowest donor l (loser), and a path
-- (chain) between the two that has the fewest moves
pub record Chosen (I : Instance) (S : Sheet) (test : ℕ → ℕ → Bool) (g l : ℕ) (ms : List Move) : Type 0 where
  pub seat : g < I.seats
  pub passes : test g l ≡ true
  pub path : Path I S g l ms
  pub least : (ns : List Move) → Path I S g l ns → length ms ≤ length ns
  pub lowest_donor : (k : ℕ) (ns : List Move) → k < l → Path I S g k ns → test g k ≡ false
  pub first_receiver : (h k : ℕ) (ns : List Move) → h < g → Path I S h k ns → test h k ≡ false

-- by its kind, what an exchange is that the search answers: one that improves, or, where there is none, one that ties wrongly
abbrev pub Answered : Instance → Sheet → Kind → ℕ → ℕ → List Move → Type 0
Answered I S Improving g l ms = Chosen I S (improves_at I S) g l ms
Answered I S WronglyTied g l ms = (Improvable I S → ⊥) × Chosen I S (ties_at I S) g l ms

-- what the search answers: an exchange, or that there is none of either kind
abbrev pub Answers : Instance → Sheet → Option Exchange → Type 0
Answers I S None = (Improvable I S → ⊥) × (Tied I S → ⊥)
Answers I S (Some x) = Answered I S x.kind x.path.receiver x.path.donor (moves_of x.path)
