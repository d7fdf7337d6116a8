use mathlib.Core.Path.{refl}
use native.Mathlib.Omega.{arith}
use Rattle.lists.proofs.Arrays.{filled-first, filled_next}
use Rattle.fields.proofs.Filling.{filled-whole}
use Rattle.fields.proofs.arrays.read_fields.Goals as goal

pub loop-i-init : goal.loop-i-init
loop-i-init c = filled-first refl c.requires.2

pub overflow_cast-array : goal.overflow_cast-array
overflow_cast-array c = omega (arith, c.field.ensures.1)

pub bounds-array-i : goal.bounds-array-i
bounds-array-i c =
    let v = c.loop-i.invariant in omega (arith, v.size, v.room, c.loop-i-test.true)

pub loop-i-preserved : goal.loop-i-preserved
loop-i-preserved c =
    let l = c.loop-i in filled_next l.invariant c.loop-i-test.true c.field.ensures.0

pub shape_of-array : goal.shape_of-array
shape_of-array c = c.loop-i.invariant.size

pub returns : goal.returns
returns c = filled-whole c.loop-i.invariant c.loop-i-test.false
