-- `reach::Graph::start` meets its contract.
use borrow.Author.Rules.{rules}
use Rattle.reach.proofs.Waves.{first}
use Rattle.reach.proofs.Graph.start.Goals as goal

pub returns-clause-anywhere : goal.returns-clause-anywhere
returns-clause-anywhere c = λ graph long. first graph _ _ _ long c.insert-here.ensures c.full.ensures

pub returns-clause-here : goal.returns-clause-here
returns-clause-here c = first c.args.self.now _ _ _ (search rules) c.insert-here.ensures c.full.ensures
