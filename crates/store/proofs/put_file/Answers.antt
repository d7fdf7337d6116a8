use native.Mathlib.Omega.{arith}
use Rattle.store.proofs.Storing.{begun-room, begun-next}
use Rattle.store.proofs.Files.{slots-fit, contents-room, contents-put, sheet-room, sheet-put, file-front}
use Rattle.store.proofs.put_file.Goals as goal

pub put_contents-p-requires : goal.put_contents-p-requires
put_contents-p-requires c =
    let a = c.args in
    let e = c.slots_of.ensures in
    let f = slots-fit a.book a.has_sheet e (c.requires.seats_bound.0, c.requires.seats_bound.1) in
    (f.0, contents-room a.book a.caps.now a.has_sheet a.sheet.now a.out.now c.requires.sheet_in_bounds e, f.1)

pub put_lists-p-requires : goal.put_lists-p-requires
put_lists-p-requires c =
    let a = c.args in
    begun-room (contents-put a.book a.caps.now a.has_sheet a.sheet.now a.out.now c.requires.sheet_in_bounds
    c.slots_of.ensures c.put_contents-p.ensures)

pub put_rows-p-requires : goal.put_rows-p-requires
put_rows-p-requires c =
    let a = c.args in
    let b = contents-put a.book a.caps.now a.has_sheet a.sheet.now a.out.now c.requires.sheet_in_bounds
    c.slots_of.ensures c.put_contents-p.ensures in
    (c.requires.seats_bound.0, begun-room (begun-next b c.put_lists-p.ensures))

pub put_rows-p-requires-2 : goal.put_rows-p-requires-2
put_rows-p-requires-2 c =
    let a = c.args in
    let n = c.size_if-rows.ensures in
    let b = contents-put a.book a.caps.now a.has_sheet a.sheet.now a.out.now c.requires.sheet_in_bounds
    c.slots_of.ensures c.put_contents-p.ensures in
    let k = begun-next (begun-next b c.put_lists-p.ensures) c.put_rows-p.ensures in
    (omega (arith, n.1, c.requires.seats_bound.0), sheet-room a.book a.has_sheet a.sheet.now n.0 (begun-room k))

pub put_options-requires : goal.put_options-requires
put_options-requires c =
    let a = c.args in
    let n = c.size_if-rows.ensures in
    let b = contents-put a.book a.caps.now a.has_sheet a.sheet.now a.out.now c.requires.sheet_in_bounds
    c.slots_of.ensures c.put_contents-p.ensures in
    let k = begun-next (begun-next b c.put_lists-p.ensures) c.put_rows-p.ensures in
    begun-room (begun-next k (sheet-put a.book a.has_sheet a.sheet.now n.0 c.put_rows-p-2.ensures))

pub returns : goal.returns
returns c =
    let a = c.args in
    let n = c.size_if-rows.ensures in
    let b = contents-put a.book a.caps.now a.has_sheet a.sheet.now a.out.now c.requires.sheet_in_bounds
    c.slots_of.ensures c.put_contents-p.ensures in
    let k = begun-next (begun-next b c.put_lists-p.ensures) c.put_rows-p.ensures in
    let l = begun-next k (sheet-put a.book a.has_sheet a.sheet.now n.0 c.put_rows-p-2.ensures) in
    let h = file-front a.book a.caps.now a.has_sheet a.sheet.now a.out.now c.requires.sheet_in_bounds
    (begun-next l c.put_options.ensures) in record { length = h.0; file = h.1 }
