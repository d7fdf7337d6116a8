use native.Mathlib.Omega.{arith}
use Rattle.store.proofs.Files.{slots-fit, length-told}
use Rattle.store.proofs.file_length.Goals as goal

pub count_fields-requires : goal.count_fields-requires
count_fields-requires c =
    slots-fit c.args.book c.args.has_sheet c.slots_of-slots.ensures c.requires

pub overflow_mul-result-2 : goal.overflow_mul-result-2
overflow_mul-result-2 c =
    let a = c.args in
    let h = (slots-fit a.book a.has_sheet c.slots_of-slots.ensures c.requires).1 in
    record { fits = omega (arith, c.count_fields.ensures) }

pub overflow_add-result-2 : goal.overflow_add-result-2
overflow_add-result-2 c =
    let a = c.args in
    let h = (slots-fit a.book a.has_sheet c.slots_of-slots.ensures c.requires).1 in
    record { fits = omega (arith, c.count_fields.ensures, c.count_entries.ensures) }

pub returns : goal.returns
returns c caps sheet =
    let a = c.args in
    length-told a.book caps a.has_sheet sheet c.slots_of-slots.ensures c.count_entries.ensures.0 c.count_fields.ensures
