-- `lawful::memory::row_within` meets its contract: while none is counted, no cell passed yet is above its cap.
use borrow.Author.Tests.{eqb-true}
use Prim.Native.Nat.{zero-le}
use native.Mathlib.Omega.{arith}
use Rattle.lists.proofs.Alls.{up_to}
use Rattle.lawful.proofs.memory.row_within.Goals as goal
use Rattle.lawful.proofs.memory.row_within.Goals.{then-caps-w, else-caps-w}

pub loop-w-init : goal.loop-w-init
loop-w-init c = (zero-le, zero-le, λ e j l. absurd (omega arith))

pub loop-w-preserved : goal.loop-w-preserved
loop-w-preserved c =
    let l = c.loop-w in
    elim c.if-caps-w.branch [
      | then-caps-w w ↦ (omega arith, omega arith, λ e. absurd (omega arith))
      | else-caps-w w ↦ (omega arith, omega arith, λ e. up_to (l.invariant.2 (omega arith)) w.if-caps-w.false)
    ]

pub returns : goal.returns
returns c e j h =
    let l = c.loop-w in
    l.invariant.2 (eqb-true _ _ e) j (omega (arith, c.loop-w-test.false))
