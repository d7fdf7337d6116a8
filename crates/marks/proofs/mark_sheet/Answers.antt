-- `marks::mark_sheet` meets its contract: by what the search for waste answers.
use Prim.Native.Nat.{◌<◌}
use native.Mathlib.Omega.{arith}
use Rattle.dayfile.proofs.Used.{range-in}
use Rattle.marks.proofs.Memory.{shows, searchable, wasted-small, tells, waste-marked, full-marked}
use Rattle.marks.proofs.mark_sheet.Goals as goal

pub returns-in-At : goal.returns-in-At
returns-in-At c =
    waste-marked _ _ _ _ (tells _ _ c.wasted.ensures c.in-At.is) _

pub terms_of-requires : goal.terms_of-requires
terms_of-requires c =
    (c.args.caps, c.requires.markable.fit)

pub mark_full-requires : goal.mark_full-requires
mark_full-requires c = record {
  small = searchable _ _ _ c.requires.markable _ (c.terms_of.ensures.told c.args.caps) c.terms_of.ensures.ranged;
  moves_room_in_bounds = c.requires.moves_room_in_bounds;
}

pub returns : goal.returns
returns c =
    let told = c.terms_of.ensures.told c.args.caps in
    let full = tells _ _ c.wasted.ensures c.in_default.is in
    full-marked _ _ full _ _ _ (c.mark_full.ensures _ _ told (shows _ _ _ c.requires.markable _ told))

pub wasted-requires : goal.wasted-requires
wasted-requires c = range-in _ _ c.requires.markable.fit

pub overflow_add-result : goal.overflow_add-result
overflow_add-result c =
    let small : (c.in-At.window < 24) × (c.in-At.seat < 32) =
    wasted-small _ _ _ c.requires.markable _ _ (tells _ _ c.wasted.ensures c.in-At.is) in
    omega (arith, small)

pub overflow_add-result-in-At : goal.overflow_add-result-in-At
overflow_add-result-in-At c =
    let small : (c.in-At.window < 24) × (c.in-At.seat < 32) =
    wasted-small _ _ _ c.requires.markable _ _ (tells _ _ c.wasted.ensures c.in-At.is) in
    omega (arith, small)
