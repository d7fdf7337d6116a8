-- `exchange::find_path` meets its contract. Each turn works out one seat's score; the graph says who can take from whom.
use borrow.Author.Rules.{rules}
use mathlib.Core.Path.{◌≡◌, refl}
use native.Mathlib.Omega.{arith}
use lib.ListN.{length, take}
use lib.Seq.{length-take-le}
use Rattle.model.specs.Book.{cell}
use Rattle.instance.specs.Terms.{instance_in}
use Rattle.exchange.proofs.Heights.{scored, moderate}
use Rattle.exchange.proofs.Drawing.{drawn, drawn-told}
use Rattle.exchange.proofs.Finding.{Right, finds-right}
use Rattle.exchange.proofs.find_path.Goals.{After-find}
use Rattle.exchange.proofs.find_path.Goals as goal

pub invariant_of-scores : goal.invariant_of-scores
invariant_of-scores c =
    let a = c.args in
    let small = moderate a.t a.caps.now a.grid.now c.requires.small c.requires.feasible c.loop-seat.seat (search rules) in
    record { moderate = small _ _ (omega (arith, c.row_total.ensures.0)) refl }

-- what the search finds is right
right : (c : After-find) → Right c.args.t c.args.caps.now c.args.grid.now c.find.result
right c =
    let a = c.args in
    let at = c.loop-seat in
    let ranged = c.requires.small.ranged in
    let graph = c.graph_of.result in
    let long : length (take a.t.seats at.scores) ≡ a.t.seats =
    length-take-le a.t.seats at.scores (omega (arith, ranged.seats_most, at.invariant.size)) in
    let scores = scored a.t a.caps.now a.grid.now at.seat _ at.scores (search rules) at.invariant in
    let moves = drawn (instance_in a.t a.caps.now) (cell a.grid.now) graph c.graph_of.ensures in
    finds-right a.t a.caps.now a.grid.now ranged _ long graph scores
    (λ J S told shows. drawn-told a.t a.caps.now a.grid.now J S told shows graph moves) _ c.find.ensures

pub returns : goal.returns
returns c = let h = right c in record { writable = h.writable; answers = h.answers }
