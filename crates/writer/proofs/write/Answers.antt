use mathlib.Core.Path.{◌∙◌, ap₂}
use native.Mathlib.Omega.{arith}
use Rattle.model.specs.Book.{Grid}
use Rattle.sheet.specs.Sheets.{grid_of}
use Rattle.dayfile.specs.Memory.{file_with, front}
use Rattle.dayfile.proofs.Answers.{refuses, passes}
use Rattle.writer.proofs.Checks.{early, no_room, enough, lines-pass}
use Rattle.writer.proofs.write.Goals as goal

pub returns-in-Refused : goal.returns-in-Refused
returns-in-Refused c =
    early c.args.day _ (refuses c.check_day.ensures c.in-Refused.is)

pub file_length-n-requires : goal.file_length-n-requires
file_length-n-requires c =
    lines-pass c.args.day (passes c.check_day.ensures c.in_default.is)

pub returns-then-out-n : goal.returns-then-out-n
returns-then-out-n c =
    let d = c.args.day in
    let e = c.file_length-n.ensures (grid_of d.caps) (grid_of d.sheet) in
    no_room d _ (passes c.check_day.ensures c.in_default.is) e (omega arith)

pub put_file-requires : goal.put_file-requires
put_file-requires c =
    let d = c.args.day in
    let e = c.file_length-n.ensures c.to_grid-caps.result c.to_grid-sheet.result in
    let p = lines-pass d (passes c.check_day.ensures c.in_default.is) in record {
      seats_bound = (p.0, p.1);
      sheet_in_bounds = omega arith;
    }

pub returns : goal.returns
returns c =
    let a = c.args in
    let d = a.day in
    let p = passes c.check_day.ensures c.in_default.is in
    let e = ap₂ (λ (x y : Grid). front (file_with d.book x d.has_sheet y) a.out.now)
    c.to_grid-caps.ensures c.to_grid-sheet.ensures in
    let n = c.file_length-n.ensures (grid_of d.caps) (grid_of d.sheet) in
    enough d _ _ p n c.if-out-n.false (c.put_file.ensures.file ∙ e)
