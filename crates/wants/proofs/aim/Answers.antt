-- `wants::aim` meets its contract: each turn works out one seat's base and place.
use borrow.Author.Rules.{rules}
use mathlib.Core.Path.{refl}
use Rattle.lists.proofs.Arrays.{filled-first, filled_next}
use Rattle.wants.proofs.Aiming.{aim-ranged, aim-told}
use Rattle.wants.proofs.aim.Goals as goal

pub loop-i-init : goal.loop-i-init
loop-i-init c = let few = c.requires.seats_most in (filled-first refl few, filled-first refl few)

pub place-requires : goal.place-requires
place-requires c = search rules

pub loop-i-preserved : goal.loop-i-preserved
loop-i-preserved c =
    let l = c.loop-i in
    (filled_next l.invariant.0 (search rules) c.base_for.ensures, filled_next l.invariant.1 (search rules) c.place.ensures)

pub returns : goal.returns
returns c =
    let l = c.loop-i in
    let a = c.args in
    let ranged = c.requires in
    let end = c.loop-i-test.false in record {
      ranged = aim-ranged a.t a.wants _ _ l.i _ _ end l.invariant ranged;
      told = aim-told a.t a.wants _ _ l.i _ _ end l.invariant ranged;
    }
