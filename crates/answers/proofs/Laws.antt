-- How large the numbers of a mark can be. Assumes nothing.
use mathlib.Core.Path.{◌≡◌}
use Prim.Native.Nat.{◌≤◌, zero-le}
use Rattle.model.specs.Marks.{Result}
use Rattle.dayfile.specs.Outcome.{Outcome, turned_away, answer}
use Rattle.answers.specs.declared.Numbers.{Numbers}
use Rattle.answers.specs.Answers.{numbers_of}
use Rattle.answers.specs.Steps.{Small}

-- an answer's numbers in memory
pub small-numbers : (o : Outcome Result) (n : Numbers) → Small o → n ≡ numbers_of o → (n.window ≤ 32) × (n.seat ≤ 32) × (n.moves ≤ 32)
small-numbers (turned_away q) n s e = rw e (zero-le, zero-le, zero-le)
small-numbers (answer r) n s e = rw e s
