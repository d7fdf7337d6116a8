-- What keeps a grid filled, one change after another.
use Rattle.std.proofs.Common.{ℕ}
use Rattle.model.specs.Book.{Grid}
use Rattle.fill.specs.Fills.{Keeps}

-- no change
pub keeps_same : (n m : ℕ) (caps g : Grid) → Keeps n m caps g g
keeps_same n m caps g = record { kept = λ supplies f. f }

-- one change and then another
pub keeps_then : {n m : ℕ} {caps g r t : Grid} → Keeps n m caps g r → Keeps n m caps r t → Keeps n m caps g t
keeps_then a b = record { kept = λ supplies f. b.kept supplies (a.kept supplies f) }

pub ruleset keeping = (keeps_same, keeps_then)
