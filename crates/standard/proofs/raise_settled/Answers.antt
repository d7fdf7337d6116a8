-- `standard::raise_settled` meets its contract: the fast pass keeps what is filled filled, and the totals were compared.
use Rattle.standard.proofs.Keeping.{raised-settled}
use Rattle.standard.proofs.raise_settled.Goals as goal

pub returns-then-same_totals : goal.returns-then-same_totals
returns-then-same_totals c =
    let g = c.args.grid.now in
    raised-settled c.args.t c.args.caps.now g c.requires.small c.requires.shaped c.requires.settled _ c.raise.ensures
    (c.same_totals.ensures c.if-same_totals.true)
