-- `better::better` meets its contract, by cases of the choice.
use borrow.Author.Rules.{rules}
use mathlib.Core.Path.{refl, ap}
use Rattle.better.specs.Choice.{first, second, side_of}
use Rattle.better.proofs.Choosing.{lawful_both, hands-back}
use Rattle.better.proofs.better.Goals as goal

pub sheet_body-requires : goal.sheet_body-requires
sheet_body-requires c =
    let both = lawful_both _ _ first _ c.choose.ensures (ap side_of c.in-First.is) in
    search rules

pub sheet_body-requires-in-Second : goal.sheet_body-requires-in-Second
sheet_body-requires-in-Second c =
    let both = lawful_both _ _ second _ c.choose.ensures (ap side_of c.in-Second.is) in
    search rules

pub returns-in-First : goal.returns-in-First
returns-in-First c = hands-back c.choose.ensures c.in-First.is c.sheet_body.ensures

pub returns-in-Second : goal.returns-in-Second
returns-in-Second c = hands-back c.choose.ensures c.in-Second.is c.sheet_body-in-Second.ensures

pub returns-in-Refused : goal.returns-in-Refused
returns-in-Refused c = hands-back c.choose.ensures c.in-Refused.is refl
