use mathlib.Core.List.{List, []}
use Rattle.std.specs.Prelude.{Option, Some}
use mathlib.Core.Path.{◌∙◌, ap, sym}
use Prim.Native.Nat.{ℕ}
use native.Mathlib.Omega.{arith}
use Rattle.model.specs.Lowest.{and_then, value_or}
use Rattle.dayfile.specs.Layout.{fields_at, start}
use Rattle.dayfile.specs.Memory.{found, sized}
use Rattle.dayfile.specs.declared.Found.{Found}
use Rattle.dayfile.proofs.Answers.{under_at}
use Rattle.dayfile.proofs.Tables.{sized-none}
use Rattle.reader.proofs.day.list_of.Goals as goal

-- the numbers by their entry
abbrev list_by : List ℕ → ℕ → ℕ → Option ℕ → List ℕ
list_by f n l o = sized l (value_or (and_then o (λ e. Some (fields_at f (start f e) n))) [])

pub start-requires : goal.start-requires
start-requires c =
    under_at 65536 c.requires.0 c.in-At.is

pub fill-requires : goal.fill-requires
fill-requires c =
    (omega (arith, c.start.ensures.1), c.requires.1)

pub returns-in-At : goal.returns-in-At
returns-in-At c = λ l z.
    let a = c.args in
    let f = a.file.now in
    c.fill.ensures l z ∙ ap (λ (x : ℕ). sized l (fields_at f x a.n)) c.start.ensures.0
    ∙ ap (λ (x : Found). list_by f a.n l (found x)) (sym c.in-At.is)

pub returns-in_default : goal.returns-in_default
returns-in_default c = λ l z.
    let a = c.args in
    z ∙ sym (sized-none l) ∙ ap (λ (x : Found). list_by a.file.now a.n l (found x)) (sym c.in_default.is)
