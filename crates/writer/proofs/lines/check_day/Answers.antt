use mathlib.Core.Path.{refl, sym, ◌∙◌}
use native.Mathlib.Omega.{arith}
use Rattle.dayfile.proofs.Answers.{refuses, passes}
use Rattle.writer.proofs.Checks.{counts-pass, stop-counts, stop-values, go_on}
use Rattle.sheet.specs.Sheets.{grid_of}
use Rattle.writer.proofs.lines.check_day.Goals as goal

pub returns-in-Refused : goal.returns-in-Refused
returns-in-Refused c =
    let d = c.args.day in
    sym (stop-counts d (refuses (c.check_counts.ensures d refl) c.in-Refused.is))

pub first_body-start-requires : goal.first_body-start-requires
first_body-start-requires c =
    let d = c.args.day in counts-pass d (passes (c.check_counts.ensures d refl) c.in_default.is)

pub check_values-requires : goal.check_values-requires
check_values-requires c =
    let d = c.args.day in
    let p = counts-pass d (passes (c.check_counts.ensures d refl) c.in_default.is) in
    (p.0, p.1, omega (arith, c.first_body-start.ensures.1))

pub returns-in-Refused-check_values : goal.returns-in-Refused-check_values
returns-in-Refused-check_values c =
    let d = c.args.day in
    let at = c.first_body-start.ensures.0 in
    sym (stop-values d (passes (c.check_counts.ensures d refl) c.in_default.is)
    (refuses (c.check_values.ensures d refl refl at) c.in-Refused-check_values.is))

pub check_options-requires : goal.check_options-requires
check_options-requires c =
    let d = c.args.day in
    let p = counts-pass d (passes (c.check_counts.ensures d refl) c.in_default.is) in
    (p.0, p.1, omega (arith, c.first_body-start.ensures.1))

pub returns : goal.returns
returns c =
    let d = c.args.day in
    c.check_options.ensures (grid_of d.caps) (grid_of d.sheet) c.first_body-start.ensures.0
    ∙ sym (go_on d (passes (c.check_counts.ensures d refl) c.in_default.is)
    (passes (c.check_values.ensures d refl refl c.first_body-start.ensures.0) c.in_default-check_values.is))
