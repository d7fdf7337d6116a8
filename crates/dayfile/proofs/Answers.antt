-- What the code's answers tell of the lines that they stand for.
-- Assumes nothing.
use mathlib.Core.List.{List}
use Rattle.std.specs.Prelude.{Option, None, Some}
use mathlib.Core.Path.{◌≡◌, refl, sym, ◌∙◌, ap, subst}
use Prim.Native.Nat.{ℕ, ◌<◌}
use native.Mathlib.Omega.{arith}
use lib.ListN.{length}
use Rattle.model.specs.Lowest.{is_some, and_then}
use Rattle.dayfile.specs.Table.{Line, Refusal, refuse, first_of}
use Rattle.dayfile.specs.Outcome.{Outcome, turned_away, answer, unless, outcome, Defined}
use Rattle.dayfile.specs.Memory.{found, Under, refused, front, Writes}
use Rattle.dayfile.specs.declared.Found.{Found}
use Rattle.dayfile.specs.declared.Found.TheVariants.{At, Nothing}
use Rattle.dayfile.specs.declared.Check.{Check}
use Rattle.dayfile.specs.declared.Check.TheVariants.{Refused, Sound}
use Rattle.dayfile.specs.declared.Written as Written
use Rattle.dayfile.proofs.Lines.{first_holds, holds-first, none-holds, none-first-of}

-- a refusal comes from a line that holds, and an answer means that none does
pub away : {A : Type 0} (o : Option Refusal) (x : A) (q : Refusal) → unless o x ≡ turned_away q → o ≡ Some q
away (Some r) x q e = cc
away None x q e = absurd (let z : ◌≡◌ {A = ℕ} 0 1 = cc in omega arith)

pub answered : {A : Type 0} (o : Option Refusal) (x y : A) → unless o x ≡ answer y → (o ≡ None) × (x ≡ y)
answered None x y e = (refl, cc)
answered (Some q) x y e = absurd (let z : ◌≡◌ {A = ℕ} 0 1 = cc in omega arith)

-- a line holds at an offset, or nowhere
pub at-line : {r : Found} {l : Option ℕ} {p : ℕ} → found r ≡ l → r ≡ At p → l ≡ Some p
at-line e h = sym e ∙ ap found h

pub no_line : {r : Found} {l : Option ℕ} → found r ≡ l → r ≡ Nothing → l ≡ None
no_line e h = sym e ∙ ap found h

-- the bound of an answer
pub under_at : (n : ℕ) {r : Found} {p : ℕ} → Under n (found r) → r ≡ At p → p < n
under_at n u h = subst (λ (x : Found). Under n (found x)) h u

-- a body is there where its entry is
pub there-as : {A : Type 0} (body : ℕ → A) (o : Option ℕ) → is_some o ≡ is_some (and_then o (λ e. Some (body e)))
there-as body None = refl
there-as body (Some e) = refl

-- a group of lines refuses, or lets pass
pub refuses : {r : Check} {l : Option Refusal} {n p : ℕ} → refused r ≡ l → r ≡ Refused n p → l ≡ Some (refuse n p)
refuses e h = sym e ∙ ap refused h

pub passes : {r : Check} {l : Option Refusal} → refused r ≡ l → r ≡ Sound → l ≡ None
passes e h = sym e ∙ ap refused h

-- ---- the shape of a contract: what a call answers and leaves, by what its lines say

module _ {A : Type 0} {lines : List Line} {before after : List ℕ} {o : Outcome A} {Right : A → Type 0} where
  -- a call that answers by the lines
  pub defined : (x : A) → o ≡ outcome lines x → ((q : Refusal) → first_of lines ≡ Some q → after ≡ before)
      → (first_of lines ≡ None → Right x) → Defined lines before after o Right
  defined x is kept right =
      record {
        refuses = λ q. (
          λ e. first_holds lines q (from q e),
          λ h. is ∙ ap (λ (p : Option Refusal). unless p x) (holds-first lines q h),
        );
        unchanged = λ q e. kept q (from q e);
        gives = λ h.
            let free = none-first-of lines h in
            (x, (is ∙ ap (λ (p : Option Refusal). unless p x) free, right free));
      }
    where
      from : (q : Refusal) → o ≡ turned_away q → first_of lines ≡ Some q
      from q e = away (first_of lines) x q (sym is ∙ e)

  -- a line holds
  pub defined-refusal : (q : Refusal) → first_of lines ≡ Some q → o ≡ turned_away q → after ≡ before → Defined lines before after o Right
  defined-refusal q e is kept =
      record {
        refuses = λ p. (
          λ h. first_holds lines p (e ∙ same p (sym is ∙ h)),
          λ h. is ∙ ap turned_away (some_same (sym e ∙ holds-first lines p h)),
        );
        unchanged = λ p h. kept;
        gives = λ h. absurd (some-none (sym e ∙ none-first-of lines h));
      }
    where
      same : (p : Refusal) → ◌≡◌ {A = Outcome A} (turned_away q) (turned_away p) → Some q ≡ Some p
      same p h = cc

      some_same : {p : Refusal} → Some q ≡ Some p → q ≡ p
      some_same h = cc

      some-none : Some q ≡ None → ⊥
      some-none h = let z : ◌≡◌ {A = ℕ} 0 1 = cc in omega arith

  -- none holds
  pub defined-answer : (x : A) → first_of lines ≡ None → o ≡ answer x → Right x → Defined lines before after o Right
  defined-answer x e is right =
      defined x (is ∙ ap (λ (p : Option Refusal). unless p x) (sym e))
      (λ q h. absurd (let z : ◌≡◌ {A = ℕ} 0 1 = cc in omega arith)) (λ h. right)

  -- what the contract tells where a line holds, and where none does
  pub tells-refusal : Defined lines before after o Right → (q : Refusal) → first_of lines ≡ Some q
      → (o ≡ turned_away q) × (after ≡ before)
  tells-refusal d q e = let h = (d.refuses q).1 (first_holds lines q e) in (h, d.unchanged q h)

  pub tells-answer : Defined lines before after o Right → first_of lines ≡ None → (x : A) × ((o ≡ answer x) × Right x)
  tells-answer d e = d.gives (none-holds lines e)

  -- what an answer tells of the lines
  pub refusal-first : Defined lines before after o Right → (q : Refusal) → o ≡ turned_away q → first_of lines ≡ Some q
  refusal-first d q e = holds-first lines q ((d.refuses q).0 e)

  pub answer-none : Defined lines before after o Right → (x : A) → o ≡ answer x → (first_of lines ≡ None) × Right x
  answer-none d x e = go (first_of lines) refl
    where
      answers : (y z : A) → ◌≡◌ {A = Outcome A} (answer y) (answer z) → y ≡ z
      answers y z h = cc

      go : (p : Option Refusal) → first_of lines ≡ p → (first_of lines ≡ None) × Right x
      go (Some q) h = absurd (let f = (tells-refusal d q h).0 in let z : ◌≡◌ {A = ℕ} 0 1 = cc in omega arith)
      go None h =
          let g = tells-answer d h in
          let same : g.0 ≡ x = answers g.0 x (sym g.1.0 ∙ e) in
          (h, subst Right same g.1.1)

-- a call that writes a file: it refuses and leaves the buffer alone, or the file stands at the buffer's front
pub writes-refused : (lines : ℕ → List Line) (file before : List ℕ) (n p : ℕ) → first_of (lines (length before)) ≡ Some (refuse n p)
    → Writes lines file before before (Written.TheVariants.Refused n p)
writes-refused lines file before n p e = defined-refusal (refuse n p) e refl refl

pub writes-whole : (lines : ℕ → List Line) (file before after : List ℕ) (n : ℕ) → first_of (lines (length before)) ≡ None
    → n ≡ length file → after ≡ front file before → Writes lines file before after (Written.TheVariants.Whole n)
writes-whole lines file before after n e q h = defined-answer n e refl (q, h)
