use mathlib.Core.List.{List}
use Rattle.std.specs.Prelude.{Option, Some}
use mathlib.Core.Path.{◌∙◌, ap, sym}
use Prim.Native.Nat.{ℕ}
use Rattle.model.specs.Lowest.{and_then, value_or}
use Rattle.dayfile.specs.Layout.{field, start}
use Rattle.dayfile.specs.Memory.{found}
use Rattle.dayfile.specs.declared.Found.{Found}
use Rattle.dayfile.proofs.Answers.{under_at}
use Rattle.reader.proofs.day.field_of.Goals as goal

-- the field by its entry
abbrev field_by : List ℕ → Option ℕ → ℕ
field_by f o = value_or (and_then o (λ e. Some (field f (start f e)))) 0

pub start-requires : goal.start-requires
start-requires c = under_at 65536 c.requires c.in-At.is

pub returns-in-At : goal.returns-in-At
returns-in-At c =
    let f = c.args.file.now in
    c.field.ensures.0 ∙ ap (field f) c.start.ensures.0 ∙ ap (λ (x : Found). field_by f (found x)) (sym c.in-At.is)

pub returns : goal.returns
returns c =
    let f = c.args.file.now in ap (λ (x : Found). field_by f (found x)) (sym c.in_default.is)
