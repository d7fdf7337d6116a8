use mathlib.Core.List.{[], ◌∷◌}
use mathlib.Core.Path.{sym}
use native.Mathlib.Omega.{arith}
use borrow.Author.Rules.{rules}
use Rattle.store.proofs.Storing.{put_as, put_then, room-first, room_next, room_as}
use Rattle.store.proofs.Slots.{there-size, there-entry, missing-put}
use Rattle.store.proofs.contents.put_entry.Goals as goal

-- the entry's three fields
pub put-p-requires : goal.put-p-requires
put-p-requires c =
    let a = c.args in
    let r = room_as (there-entry a.slot a.start c.if-slot.true) c.requires.0 in (room-first (_ ∷ []) (_ ∷ _ ∷ []) r, search rules)

pub put-p-requires-then-slot : goal.put-p-requires-then-slot
put-p-requires-then-slot c =
    let a = c.args in
    let r = room_as (there-entry a.slot a.start c.if-slot.true) c.requires.0 in
    (room-first (_ ∷ []) (_ ∷ []) (room_next (_ ∷ []) (_ ∷ _ ∷ []) r c.put-p.ensures), omega (arith, c.requires))

pub overflow_mul-slot : goal.overflow_mul-slot
overflow_mul-slot c =
    let e = there-size c.args.slot c.if-slot.true in record { fits = omega (arith, c.requires) }

pub put-requires : goal.put-requires
put-requires c =
    let a = c.args in
    let w = there-size a.slot c.if-slot.true in
    let r = room_as (there-entry a.slot a.start c.if-slot.true) c.requires.0 in
    let q = room_next (_ ∷ []) (_ ∷ _ ∷ []) r c.put-p.ensures in
    (room_next (_ ∷ []) (_ ∷ []) q c.put-p-then-slot.ensures, omega (arith, c.requires))

pub returns-then-slot : goal.returns-then-slot
returns-then-slot c =
    let a = c.args in
    put_as (sym (there-entry a.slot a.start c.if-slot.true))
    (put_then (put_then c.put-p.ensures c.put-p-then-slot.ensures) c.put.ensures)

pub returns : goal.returns
returns c = let a = c.args in missing-put _ _ a.slot a.start c.if-slot.false
