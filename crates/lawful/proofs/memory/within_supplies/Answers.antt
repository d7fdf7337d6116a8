-- `lawful::memory::within_supplies` meets its contract: no window passed yet is over its supply.
use borrow.Author.Rules.{rules}
use mathlib.Core.Bool.{true≢false}
use mathlib.Core.Path.{sym}
use Prim.Native.Nat.{zero-le}
use native.Mathlib.Omega.{arith}
use Rattle.lists.proofs.Alls.{up_to}
use Rattle.lawful.proofs.memory.within_supplies.Goals as goal

pub loop-w-preserved : goal.loop-w-preserved
loop-w-preserved c = (search rules, up_to c.loop-w.invariant.1 c.if-supplies-w.false)

pub returns-then-supplies-w : goal.returns-then-supplies-w
returns-then-supplies-w c e = absurd (true≢false (sym e))

pub returns : goal.returns
returns c e j h = c.loop-w.invariant.1 j (omega (arith, c.loop-w-test.false))

pub loop-w-init : goal.loop-w-init
loop-w-init c = (zero-le, λ k l. absurd (omega arith))
