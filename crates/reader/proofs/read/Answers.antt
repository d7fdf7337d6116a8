use Rattle.dayfile.proofs.Answers.{refuses, passes}
use Rattle.dayfile.proofs.Readings.{reads-refused, reads-day}
use Rattle.reader.proofs.read.Goals as goal

pub returns-in-Refused : goal.returns-in-Refused
returns-in-Refused c =
    reads-refused _ _ _ _ (refuses c.check.ensures c.in-Refused.is) c.no_day.ensures

pub returns : goal.returns
returns c =
    reads-day _ _ (passes c.check.ensures c.in_default.is) c.day_of.ensures
