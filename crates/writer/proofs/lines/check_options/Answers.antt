use mathlib.Core.Bool.{true}
use mathlib.Core.List.{[], ◌∷◌}
use mathlib.Core.Path.{◌∙◌, ap}
use Prim.Native.Nat.{ℕ, ◌+◌, ◌*◌}
use native.Mathlib.Omega.{arith}
use Rattle.dayfile.specs.Table.{option_lines}
use Rattle.dayfile.specs.Memory.{sized}
use Rattle.dayfile.proofs.Lines.{three-as}
use Rattle.writer.specs.Values.{wrong_in, outside_in}
use Rattle.writer.proofs.Checks.{first-told, balances-told, weights-told}
use Rattle.writer.proofs.lines.check_options.Goals as goal

pub outside_in-requires : goal.outside_in-requires
outside_in-requires c =
    (omega (arith, c.requires, c.ahead_of_first.ensures), omega (arith, c.size_if-one.ensures))

pub outside_in-requires-2 : goal.outside_in-requires-2
outside_in-requires-2 c =
    (omega (arith, c.requires, c.ahead_of_first.ensures, c.size_if-one.ensures), omega (arith, c.requires, c.size_if-each.ensures))

pub wrong_in-requires : goal.wrong_in-requires
wrong_in-requires c = (
  omega (arith, c.requires, c.ahead_of_first.ensures, c.size_if-one.ensures, c.size_if-each.ensures),
  omega (arith, c.size_if-eight.ensures),
)

pub returns : goal.returns
unfolding option_lines
returns c = λ caps sheet e.
    let a = c.args in
    let b = a.book in
    let at = a.at + 2 * c.ahead_of_first.result in
    let told = c.ahead_of_first.ensures.0 in
    let one = c.size_if-one in
    let each = c.size_if-each in
    let first = c.outside_in.ensures
    ∙ ap (λ (i : ℕ). outside_in (sized i (b.first ∷ [])) at 1 b.seats) one.ensures.0
    ∙ first-told b caps a.has_sheet sheet e told in
    let balances = c.outside_in-2.ensures
    ∙ ap (λ (i : ℕ). outside_in (sized i b.balances) (at + 2 * one.result) 0 50000) each.ensures.0
    ∙ balances-told b caps a.has_sheet sheet e told one.ensures.0 in
    let weights = c.wrong_in.ensures
    ∙ ap (λ (i : ℕ). wrong_in (sized i b.weights) (at + 2 * one.result + 2 * each.result) 1 1000 true) c.size_if-eight.ensures.0
    ∙ weights-told b caps a.has_sheet sheet e told one.ensures.0 each.ensures.0 in
    three-as 18 c.first_of.ensures first balances weights
