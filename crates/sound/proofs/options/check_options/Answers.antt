use mathlib.Core.Bool.{false}
use mathlib.Core.Path.{◌∙◌, ap}
use Prim.Native.Nat.{ℕ}
use Rattle.model.specs.Lowest.{and_then}
use Rattle.dayfile.specs.Layout.{entry_of}
use Rattle.dayfile.specs.Table.{wrong_fields, line18, line19, line20, option_lines}
use Rattle.dayfile.proofs.Lines.{three-as}
use Rattle.sound.proofs.options.check_options.Goals as goal

pub returns : goal.returns
unfolding option_lines line18 line19 line20
returns c =
    let n = c.seats-n.ensures.0 in
    let f = c.args.file.now in
    three-as 18 c.first_of.ensures
    (c.wrong_body.ensures ∙ ap (λ (k : ℕ). and_then (entry_of f 5) (wrong_fields f 1 1 k false)) n)
    (c.wrong_body-2.ensures ∙ ap (λ (k : ℕ). and_then (entry_of f 6) (wrong_fields f k 0 50000 false)) n)
    c.wrong_body-3.ensures
