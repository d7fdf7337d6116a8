use mathlib.Core.Bool.{Bool, not}
use mathlib.Core.List.{List}
use Rattle.std.specs.Prelude.{Option, Some}
use mathlib.Core.Path.{◌≡◌, ◌∙◌, ap, sym}
use Prim.Native.Nat.{ℕ, ◌*◌}
use borrow.Author.Tests.{eq-eqb, ne_eqb}
use Rattle.model.specs.Lowest.{when, or_else}
use Rattle.dayfile.specs.Layout.{start, size, size_at}
use Rattle.dayfile.specs.Table.{wrong_field, wrong_fields}
use Rattle.sound.proofs.options.wrong_fields.Goals as goal

module _ (f : List ℕ) (n low high : ℕ) (rising : Bool) (e : ℕ) where
  -- what is said of the fields
  abbrev value : Option ℕ
  value = wrong_field f (start f e) n low high rising

  wrong-length : (size f e ≡ 2 * n → ⊥) → Some (size_at e) ≡ wrong_fields f n low high rising e
  unfolding wrong_fields
  wrong-length h = sym (ap (λ (t : Bool). or_else (when (not t) (size_at e)) value) (ne_eqb (size f e) (2 * n) h))

  right-length : size f e ≡ 2 * n → value ≡ wrong_fields f n low high rising e
  unfolding wrong_fields
  right-length h = sym (ap (λ (t : Bool). or_else (when (not t) (size_at e)) value) (eq-eqb (size f e) (2 * n) h))

pub returns-then-size-n : goal.returns-then-size-n
returns-then-size-n c = wrong-length _ _ _ _ _ _ (λ q. c.if-size-n.true (c.size.ensures.0 ∙ q))

pub returns : goal.returns
returns c =
    let a = c.args in
    c.wrong_field.ensures
    ∙ ap (λ (at : ℕ). wrong_field a.file.now at a.n a.low a.high a.rising) c.start.ensures.0
    ∙ right-length _ _ _ _ _ _ (sym c.size.ensures.0 ∙ c.if-size-n.false)
