-- `receiver::Kind::first_receiver` meets its contract.
use Rattle.std.proofs.Common.{rules, tests}
use Rattle.std.proofs.lemmas.Iterator.{first_from_Range}
use Rattle.receiver.proofs.Wanting.{HasDonor, HasNone, first-is}
use Rattle.receiver.proofs.Kind.first_receiver.Goals as goal

pub returns : goal.returns
returns c =
    let a = c.args in
    let scores = a.scores.now in
    let graph = a.graph.now in
    first-is a.self scores graph c.find.result
    (first_from_Range _ _ _ c.find.result (HasDonor a.self scores graph) (HasNone a.self scores graph) c.find.ensures.ran
    (λ g q k. search (rules, tests)) (λ g q k. search (rules, tests)))
