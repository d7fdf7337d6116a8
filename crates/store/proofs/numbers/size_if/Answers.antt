use mathlib.Core.Bool.{Bool}
use mathlib.Core.Path.{sym, ap}
use Prim.Native.Nat.{zero-le}
use native.Mathlib.Omega.{arith}
use Rattle.store.specs.Stores.{size_if}
use Rattle.store.proofs.numbers.size_if.Goals as goal

pub returns-then-there : goal.returns-then-there
returns-then-there c = (ap (λ (t : Bool). size_if t c.args.n) (sym c.if-there.true), omega arith)

pub returns-else-there : goal.returns-else-there
returns-else-there c = (ap (λ (t : Bool). size_if t c.args.n) (sym c.if-there.false), zero-le)
