use mathlib.Core.Path.{◌∙◌, ap, refl}
use native.Mathlib.Omega.{arith}
use Rattle.dayfile.specs.Layout.{field}
use Rattle.lists.proofs.Arrays.{filled-first, filled_next}
use Rattle.fields.proofs.Filling.{filled-whole}
use Rattle.fields.proofs.arrays.copy_fields.Goals as goal

pub loop-i-init : goal.loop-i-init
loop-i-init c = (filled-first refl c.requires.0, omega arith)

pub bounds-file-p : goal.bounds-file-p
bounds-file-p c =
    omega (arith, c.loop-i.invariant.1, c.requires.1, c.loop-i-test.true)

pub bounds-file-p-in-loop-i : goal.bounds-file-p-in-loop-i
bounds-file-p-in-loop-i c =
    omega (arith, c.loop-i.invariant.1, c.requires.1, c.loop-i-test.true)

pub bounds-array-i : goal.bounds-array-i
bounds-array-i c =
    let v = c.loop-i.invariant.0 in omega (arith, v.size, v.room, c.loop-i-test.true)

pub loop-i-preserved : goal.loop-i-preserved
unfolding field
loop-i-preserved c =
    let v = c.loop-i.invariant in
    let f = c.args.file.now in
    (filled_next v.0 c.loop-i-test.true (c.joined.ensures ∙ ap (field f) v.1), omega (arith, v.1))

pub shape_of-array : goal.shape_of-array
shape_of-array c = c.loop-i.invariant.0.size

pub returns : goal.returns
returns c = filled-whole c.loop-i.invariant.0 c.loop-i-test.false
