use Rattle.exchange.proofs.Heights.{Known}
use Rattle.exchange.proofs.find_path.Given as goal

abbrev pub invariant-loop-seat : goal.invariant-loop-seat
invariant-loop-seat l = Known l.grid l.t l.initial.scores l.seat l.scores
