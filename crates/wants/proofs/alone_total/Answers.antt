-- `wants::alone_total` meets its contract: each turn adds one window.
use borrow.Author.Rules.{rules}
use Prim.Native.Nat.{◌<◌}
use native.Mathlib.Omega.{arith}
use Rattle.sheet.proofs.Sums.{first, next, last}
use Rattle.wants.proofs.alone_total.Goals as goal

pub loop-w-preserved : goal.loop-w-preserved
loop-w-preserved c =
    let l = c.loop-w in
    let small : c.lesser.result < 65536 = search rules in
    let x = c.lesser.ensures in
    rw x (next _ _ l.w l.total l.invariant (search rules) (omega (arith, x, small)))

pub returns : goal.returns
returns c = let l = c.loop-w in last _ _ l.w l.total l.invariant (search rules)

pub loop-w-init : goal.loop-w-init
loop-w-init c = first _ _
