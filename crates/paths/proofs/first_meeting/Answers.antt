-- `paths::first_meeting` meets its contract.
use borrow.Author.Rules.{rules}
use native.Mathlib.Omega.{arith}
use borrow.Author.Count.{below_more}
use Rattle.paths.specs.Layers.{Meets}
use Rattle.reach.proofs.Members.{has_in, has-out, at_small}
use Rattle.paths.proofs.Meeting.{meeting, not-meeting}
use Rattle.paths.proofs.first_meeting.Goals as goal
use Rattle.paths.proofs.first_meeting.Goals.{else-has-via-then-has+else-intersect-ne0, else-has-via-else-has}

pub returns-then-intersect-ne0-clause-meets : goal.returns-then-intersect-ne0-clause-meets
returns-then-intersect-ne0-clause-meets c =
    meeting _ _ _ _ _ (has_in _ _ _ c.has.ensures c.if-has.true) c.intersect.ensures
    (omega arith) (search rules)

pub loop-i-preserved : goal.loop-i-preserved
loop-i-preserved c =
    let answer = c.has.ensures in
    let not-here : Meets c.args.set c.args.sets.now c.args.other c.loop-i.i → ⊥ =
    λ p. elim c.else-has.branch [
      | else-has-via-else-has w ↦ has-out _ _ _ answer w.if-has.false p.member
      | else-has-via-then-has+else-intersect-ne0 w ↦ not-meeting _ _ _ _ _ w.intersect.ensures w.if-intersect-ne0.false p
    ] in
    below_more _ _ c.loop-i.invariant not-here

pub unreachable-requires : goal.unreachable-requires
unreachable-requires c =
    let m = c.requires.by_index in
    let small = at_small c.args.sets.now m.0 _ m.1.own in
    c.loop-i.invariant m.0 (omega arith) m.1
