-- `better::choose` meets its contract: the first file's lines, the second's, and then the two days.
use Rattle.dayfile.proofs.Answers.{refuses, passes}
use Rattle.better.proofs.Choosing.{first-refused, second-refused, fit, days-compared}
use Rattle.better.proofs.choose.Goals as goal

pub returns-in-Refused : goal.returns-in-Refused
returns-in-Refused c = first-refused _ _ _ _ (refuses c.check_lawful.ensures c.in-Refused.is)

pub returns-in-Refused-check_lawful : goal.returns-in-Refused-check_lawful
returns-in-Refused-check_lawful c =
    second-refused _ _ (passes c.check_lawful.ensures c.in_default.is) _ _
    (refuses c.check_lawful-2.ensures c.in-Refused-check_lawful.is)

pub compare-requires : goal.compare-requires
compare-requires c =
    fit _ _ (passes c.check_lawful.ensures c.in_default.is)
    (passes c.check_lawful-2.ensures c.in_default-check_lawful.is) _ _ c.read-one.ensures c.read-two.ensures

pub returns : goal.returns
returns c =
    days-compared _ _ (passes c.check_lawful.ensures c.in_default.is)
    (passes c.check_lawful-2.ensures c.in_default-check_lawful.is) _ _ c.read-one.ensures c.read-two.ensures
    _ c.compare.ensures
