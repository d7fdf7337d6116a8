use Rattle.std.specs.Prelude.{Option}
use mathlib.Core.Path.{◌∙◌, ap, sym}
use Prim.Native.Nat.{ℕ}
use Rattle.model.specs.Lowest.{and_then}
use Rattle.dayfile.specs.Table.{wrong_fields}
use Rattle.dayfile.proofs.Answers.{under_at, at-line, no_line}
use Rattle.sound.proofs.options.wrong_body.Goals as goal

pub wrong_fields-requires : goal.wrong_fields-requires
wrong_fields-requires c =
    (under_at 65536 c.entry_of.ensures.1 c.in-At.is, c.requires)

pub returns-in-At : goal.returns-in-At
returns-in-At c =
    let here = at-line c.entry_of.ensures.0 c.in-At.is in
    let a = c.args in
    c.wrong_fields.ensures
    ∙ ap (λ (o : Option ℕ). and_then o (wrong_fields a.file.now a.n a.low a.high a.rising)) (sym here)

pub returns : goal.returns
returns c =
    let missing = no_line c.entry_of.ensures.0 c.in_default.is in
    let a = c.args in
    ap (λ (o : Option ℕ). and_then o (wrong_fields a.file.now a.n a.low a.high a.rising)) (sym missing)
