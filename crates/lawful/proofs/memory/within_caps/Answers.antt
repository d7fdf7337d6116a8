-- `lawful::memory::within_caps` meets its contract: no seat passed yet has a cell above its cap.
use borrow.Author.Rules.{rules}
use mathlib.Core.Bool.{true≢false}
use mathlib.Core.Path.{sym}
use Prim.Native.Nat.{zero-le}
use native.Mathlib.Omega.{arith}
use Rattle.lists.proofs.Alls.{up_to}
use Rattle.lawful.proofs.memory.within_caps.Goals as goal

pub loop-i-preserved : goal.loop-i-preserved
loop-i-preserved c =
    let l = c.loop-i in
    (search rules, up_to l.invariant.1 (c.row_within.ensures c.if-not-row_within.false))

pub returns-then-not-row_within : goal.returns-then-not-row_within
returns-then-not-row_within c e = absurd (true≢false (sym e))

pub returns : goal.returns
returns c e i j li lj = c.loop-i.invariant.1 i (omega (arith, c.loop-i-test.false)) j lj

pub loop-i-init : goal.loop-i-init
loop-i-init c = (zero-le, λ k l. absurd (omega arith))
