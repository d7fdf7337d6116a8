-- `masks::Members::next` meets its contract: one seat fewer is left.
use native.Mathlib.Omega.{arith}
use Rattle.masks.proofs.Laws.{removed-shrinks}
use Rattle.masks.proofs.MembersIterator.next.Goals as goal

pub returns-clause-goes : goal.returns-clause-goes
returns-clause-goes c =
    let low = c.lowest-i.ensures in
    let fewer = removed-shrinks _ _ _ low.small low.here (c.remove_lowest-self.ensures _ low) in
    record { on = λ _. (tt, tt, omega (arith, fewer)); keeps = tt; rests = λ _. tt }
