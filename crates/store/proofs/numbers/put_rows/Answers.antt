use mathlib.Core.Path.{ap}
use Prim.Native.Nat.{ℕ, zero-le}
use native.Mathlib.Omega.{arith}
use Rattle.dayfile.specs.File.{flat}
use Rattle.dayfile.specs.Memory.{sized_grid}
use Rattle.store.proofs.Storing.{put_as, put-long, grid-none, grid-more, grid-room}
use Rattle.store.proofs.numbers.put_rows.Goals as goal

pub loop-i-init : goal.loop-i-init
loop-i-init c = (zero-le, grid-none _ _ _ _)

pub put_all-p-requires : goal.put_all-p-requires
put_all-p-requires c =
    grid-room _ _ c.loop-i.i _ c.requires.1 c.loop-i-test.true c.loop-i.invariant.1

pub loop-i-preserved : goal.loop-i-preserved
loop-i-preserved c =
    (omega arith, grid-more _ _ c.loop-i.i c.loop-i.invariant.1 c.put_all-p.ensures)

pub shape_of-buf : goal.shape_of-buf
shape_of-buf c = put-long c.loop-i.invariant.1

pub returns : goal.returns
returns c =
    let a = c.args in
    put_as (ap (λ (k : ℕ). flat (sized_grid k a.m a.grid.now)) {x = c.loop-i.i} {y = a.n} (omega arith))
    c.loop-i.invariant.1
