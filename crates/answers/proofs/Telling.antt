-- What the numbers of an answer tell: mark 0 is a refusal, and any other the result of a mark. Assumes nothing.
use mathlib.Core.Path.{◌≡◌, refl, ap, sym, ◌∙◌}
use native.Mathlib.Omega.{arith}
use Rattle.dayfile.specs.Table.{refuse}
use Rattle.dayfile.specs.Outcome.{turned_away, answer}
use Rattle.answers.specs.declared.Marking.{Marking}
use Rattle.answers.specs.declared.Marking.TheVariants.{Refused, Wasteful, Improvable, Tied, Settled}
use Rattle.answers.specs.declared.Numbers.{Numbers}
use Rattle.answers.specs.Answers.{told, numbers_of, result_in}

no-mark : (r : Marking) → (numbers_of (told r)).mark ≡ 0 →
    told r ≡ turned_away (refuse (numbers_of (told r)).refusal (numbers_of (told r)).offset)
no-mark (Refused n p) e = refl
no-mark (Wasteful w s) e = absurd (omega arith)
no-mark (Improvable n) e = absurd (omega arith)
no-mark (Tied n) e = absurd (omega arith)
no-mark Settled e = absurd (omega arith)

a-mark : (r : Marking) → ((numbers_of (told r)).mark ≡ 0 → ⊥) → told r ≡ answer (result_in (numbers_of (told r)))
a-mark (Refused n p) e = absurd (e refl)
a-mark (Wasteful w s) e = refl
a-mark (Improvable n) e = refl
a-mark (Tied n) e = refl
a-mark Settled e = refl

module _ (r : Marking) (n : Numbers) (is : n ≡ numbers_of (told r)) where
  pub refusal-told : n.mark ≡ 0 → told r ≡ turned_away (refuse n.refusal n.offset)
  refusal-told e =
      no-mark r (sym (ap (λ (x : Numbers). x.mark) is) ∙ e)
      ∙ ap (λ (x : Numbers). turned_away (refuse x.refusal x.offset)) (sym is)

  pub result-told : (n.mark ≡ 0 → ⊥) → told r ≡ answer (result_in n)
  result-told e = a-mark r (λ h. e (ap (λ (x : Numbers). x.mark) is ∙ h)) ∙ ap (λ (x : Numbers). answer (result_in x)) (sym is)
