-- The marker's answer: paper 01's numbers and values of each case.
use Rattle.model.specs.Marks.{Result}
use Rattle.dayfile.specs.Table.{refuse}
use Rattle.dayfile.specs.Outcome.{Outcome, turned_away, answer}
use Rattle.answers.specs.declared.Numbers.{Numbers}
use Rattle.answers.specs.declared.Marking.{Marking}
use Rattle.answers.specs.declared.Marking.TheVariants.{Refused, Wasteful, Improvable, Tied, Settled}

abbrev pub told : Marking → Outcome Result
told (Refused number at) = turned_away (refuse number at)
told (Wasteful window seat) = answer (record { mark = 1; window = window; seat = seat; moves = 0 })
told (Improvable moves) = answer (record { mark = 2; window = 0; seat = 0; moves = moves })
told (Tied moves) = answer (record { mark = 3; window = 0; seat = 0; moves = moves })
told Settled = answer (record { mark = 4; window = 0; seat = 0; moves = 0 })

-- the same in memory: of a refusal its number and its offset; what an answer does not use is 0
abbrev pub numbers_of : Outcome Result → Numbers
numbers_of (turned_away q) = record { refusal = q.number; offset = q.at; mark = 0; window = 0; seat = 0; moves = 0 }
numbers_of (answer x) =
    record { refusal = 0; offset = 0; mark = x.mark; window = x.window; seat = x.seat; moves = x.moves }

abbrev pub result_in : Numbers → Result
result_in n = record { mark = n.mark; window = n.window; seat = n.seat; moves = n.moves }
