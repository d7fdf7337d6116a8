-- `topmost::all_blocked` meets its contract: each turn passes one seat.
use borrow.Author.Rules.{rules}
use mathlib.Core.Path.{◌≡◌, refl}
use native.Mathlib.Omega.{arith}
use Rattle.topmost.proofs.Sweep.{swept-first, swept-turn}
use Rattle.topmost.proofs.all_blocked.Goals as goal

pub loop-i-init : goal.loop-i-init
loop-i-init c =
    let few = c.requires.1 in
    (search rules, λ t seats windows. swept-first _ _ _ _ seats (λ w l. c.singles-sets.ensures w (omega arith)))

pub grown-next-requires : goal.grown-next-requires
grown-next-requires c =
    let few = c.requires.1 in record {
      windows_bound = few;
      by_index = λ w p. omega (arith, ((c.below-rooms.ensures w).0 p).0);
    }

pub loop-i-preserved : goal.loop-i-preserved
loop-i-preserved c =
    let at = c.loop-i in (
      omega (arith, at.invariant.0),
      λ t seats windows.
          swept-turn _ _ _ windows at.sets _ _ _ at.i _ (omega arith) (at.invariant.1 t seats windows) c.below-rooms.ensures
          c.below-holds.ensures (c.row_clear.ensures (search rules)) c.grown-next.ensures,
    )

pub returns : goal.returns
returns c =
    let at = c.loop-i in
    let e : at.i ≡ 0 = omega arith in
    λ r. rw e at (at.invariant.1 c.args.t refl refl).blocked
