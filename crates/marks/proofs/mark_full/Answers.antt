-- `marks::mark_full` meets its contract: by the exchange that the search finds.
use Rattle.marks.proofs.Fair.{improvable-marked, tied-marked, settled-marked}
use Rattle.marks.proofs.mark_full.Goals as goal

pub returns-in_default : goal.returns-in_default
returns-in_default c b s told shows = settled-marked b s (c.in_default.ensures.answers _ _ told shows) _

pub returns-in-Improving : goal.returns-in-Improving
returns-in-Improving c b s told shows =
    let found = c.in-Some.ensures in
    improvable-marked b s _ found.writable (found.answers _ _ told shows) c.in-Improving.is _ _ c.write_moves.ensures

pub returns-in-WronglyTied : goal.returns-in-WronglyTied
returns-in-WronglyTied c b s told shows =
    let found = c.in-Some.ensures in
    tied-marked b s _ found.writable (found.answers _ _ told shows) c.in-WronglyTied.is _ _ c.write_moves.ensures
