-- What is asked of an answer before it becomes numbers of 32 bits.
use Rattle.std.specs.Prelude.{◌≤◌}
use Rattle.model.specs.Marks.{Result}
use Rattle.dayfile.specs.Outcome.{Outcome, turned_away, answer}

-- the numbers of a mark are small enough for 32 bits
abbrev pub Small : Outcome Result → Type 0
Small (turned_away q) = Unit {0}
Small (answer r) = (r.window ≤ 32) × (r.seat ≤ 32) × (r.moves ≤ 32)
