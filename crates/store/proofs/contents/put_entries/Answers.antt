use mathlib.Core.Path.{refl}
use native.Mathlib.Omega.{arith}
use Rattle.store.proofs.Storing.{put-long}
use Rattle.store.proofs.Slots.{entered-first, entered-next, entered-room, entered-start, entered-end}
use Rattle.store.proofs.contents.put_entries.Goals as goal

pub loop-i-init : goal.loop-i-init
loop-i-init c = entered-first

pub put_entry-p-requires : goal.put_entry-p-requires
put_entry-p-requires c = (
  entered-room _ c.loop-i.invariant (omega (arith, c.requires)) c.requires.1,
  entered-start _ c.loop-i.invariant (omega (arith, c.requires)) c.requires.2 refl,
)

pub overflow_mul-body : goal.overflow_mul-body
overflow_mul-body c =
    let h = entered-start _ c.loop-i.invariant (omega (arith, c.requires)) c.requires.2 c.size_if.ensures.0 in record { fits = omega arith }

pub overflow_add-body : goal.overflow_add-body
overflow_add-body c =
    let h = entered-start _ c.loop-i.invariant (omega (arith, c.requires)) c.requires.2 c.size_if.ensures.0 in record { fits = omega arith }

pub loop-i-preserved : goal.loop-i-preserved
loop-i-preserved c =
    entered-next _ c.loop-i.invariant (omega (arith, c.requires)) c.put_entry-p.ensures c.size_if.ensures.0

pub shape_of-buf : goal.shape_of-buf
shape_of-buf c = put-long c.loop-i.invariant.put

pub returns : goal.returns
returns c = entered-end c.loop-i.invariant (omega (arith, c.requires))
