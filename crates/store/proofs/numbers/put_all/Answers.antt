use mathlib.Core.Path.{ap}
use Prim.Native.Nat.{ℕ, zero-le}
use native.Mathlib.Omega.{arith}
use Rattle.dayfile.specs.Memory.{sized}
use Rattle.store.proofs.Storing.{put_as, put-long, list-none, list-more, list-room}
use Rattle.store.proofs.numbers.put_all.Goals as goal

pub loop-i-init : goal.loop-i-init
loop-i-init c = (zero-le, list-none _ _ _)

pub put-p-requires : goal.put-p-requires
put-p-requires c =
    (list-room _ c.loop-i.i c.requires c.loop-i-test.true c.loop-i.invariant.1, c.number.ensures.1)

pub loop-i-preserved : goal.loop-i-preserved
loop-i-preserved c =
    (omega arith, list-more _ c.loop-i.i c.loop-i.invariant.1 c.number.ensures.0 c.put-p.ensures)

pub shape_of-buf : goal.shape_of-buf
shape_of-buf c = put-long c.loop-i.invariant.1

pub returns : goal.returns
returns c =
    let a = c.args in
    put_as (ap (λ (k : ℕ). sized k a.src.now) {x = c.loop-i.i} {y = a.n} (omega arith)) c.loop-i.invariant.1
