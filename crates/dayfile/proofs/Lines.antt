-- Down the lines of a table: one line, a group of lines and what comes after it, and what the answer tells.
-- Assumes nothing.
use mathlib.Core.Bool.{Bool, true, false, ◌||◌}
use mathlib.Core.List.{List, [], ◌∷◌, ◌++◌}
use Rattle.std.specs.Prelude.{Option, None, Some}
use mathlib.Core.Path.{◌≡◌, refl, sym, ◌∙◌, ap, ap₂}
use Prim.Native.Nat.{ℕ, ◌+◌, ◌≤◌, ◌<◌}
use native.Mathlib.Decide.{dec_lt}
use native.Mathlib.Omega.{arith}
use borrow.Author.Tests.{eq-eqb, lt-ltb, le-ltb}
use lib.Dec.{eqb}
use Rattle.model.specs.Lowest.{or_else}
use Rattle.dayfile.specs.Table.{Line, Refusal, line, refuse, or_refuse, first_of, line16, buffer_lines}
use Rattle.dayfile.specs.Outcome.{NoneHolds, FirstHolds}

-- this line holds
pub stop : (n : ℕ) {l : Option ℕ} {p : ℕ} (next : Option Refusal) → l ≡ Some p → Some (refuse n p) ≡ or_refuse n l next
stop n next e = ap (λ (o : Option ℕ). or_refuse n o next) (sym e)

-- this line does not, so the next decides
pub on : (n : ℕ) {l : Option ℕ} {next r : Option Refusal} → l ≡ None → r ≡ next → r ≡ or_refuse n l next
on n {l} {next} e q = q ∙ ap (λ (o : Option ℕ). or_refuse n o next) (sym e)

-- three lines, as their checks found them
pub three-as : (n : ℕ) {r : Option Refusal} {a b c x y z : Option ℕ}
    → r ≡ first_of (line n a ∷ line (n + 1) b ∷ line (n + 2) c ∷ []) → a ≡ x → b ≡ y → c ≡ z
    → r ≡ first_of (line n x ∷ line (n + 1) y ∷ line (n + 2) z ∷ [])
three-as n e p q s = e ∙ rw (p, q, s)

-- a group of lines, and else those after it
pub first-both : (xs ys : List Line) → first_of (xs ++ ys) ≡ or_else (first_of xs) (first_of ys)
first-both [] ys = refl
first-both (l ∷ xs) ys = go l.place (first-both xs ys)
  where
    go : (o : Option ℕ) → first_of (xs ++ ys) ≡ or_else (first_of xs) (first_of ys) →
        or_refuse l.number o (first_of (xs ++ ys)) ≡ or_else (or_refuse l.number o (first_of xs)) (first_of ys)
    go None rest = rest
    go (Some p) rest = refl

pub stop-in : (xs ys : List Line) (q : Refusal) → first_of xs ≡ Some q → first_of (xs ++ ys) ≡ Some q
stop-in xs ys q e = first-both xs ys ∙ ap (λ (o : Option Refusal). or_else o (first_of ys)) e

pub on-after : (xs ys : List Line) → first_of xs ≡ None → first_of (xs ++ ys) ≡ first_of ys
on-after xs ys e = first-both xs ys ∙ ap (λ (o : Option Refusal). or_else o (first_of ys)) e

-- ---- none holds

line-none : (n : ℕ) (o : Option ℕ) (next : Option Refusal) → or_refuse n o next ≡ None → (o ≡ None) × (next ≡ None)
line-none n None next e = (refl, e)
line-none n (Some p) next e = let z : ◌≡◌ {A = ℕ} 0 1 = cc in absurd (omega arith)

pub none-holds : (ls : List Line) → first_of ls ≡ None → NoneHolds ls
none-holds [] e = tt
none-holds (l ∷ ls) e = let h = line-none l.number l.place (first_of ls) e in (h.0, none-holds ls h.1)

pub none-first-of : (ls : List Line) → NoneHolds ls → first_of ls ≡ None
none-first-of [] h = refl
none-first-of (l ∷ ls) h = sym (on l.number h.0 (sym (none-first-of ls h.1)))

-- none holds in either of two groups
pub none-parts : (xs ys : List Line) → first_of (xs ++ ys) ≡ None → (first_of xs ≡ None) × (first_of ys ≡ None)
none-parts [] ys e = (refl, e)
none-parts (l ∷ xs) ys e =
    let h = line-none l.number l.place (first_of (xs ++ ys)) e in
    let k = none-parts xs ys h.1 in (sym (on l.number h.0 (sym k.0)), k.1)

-- ---- line 16, of a buffer of `room` bytes

pub room-short : (room need : ℕ) → room < need → first_of (buffer_lines room need) ≡ Some (refuse 16 need)
unfolding buffer_lines line16
room-short room need l = rw (lt-ltb room need l) refl

pub room-enough : (room need : ℕ) → need ≤ room → first_of (buffer_lines room need) ≡ None
unfolding buffer_lines line16
room-enough room need l = rw (le-ltb room need l) refl

pub room-none : (room need : ℕ) → first_of (buffer_lines room need) ≡ None → need ≤ room
room-none room need e = go (dec_lt room need)
  where
    go : Dec (room < need) → need ≤ room
    go (no d) = omega arith
    go (yes l) = absurd (let s = room-short room need l in let z : ◌≡◌ {A = ℕ} 0 1 = cc in omega arith)

-- ---- the numbers of lines

-- whether a line has this number
abbrev pub numbered : ℕ → List Line → Bool
numbered n [] = false
numbered n (l ∷ ls) = eqb l.number n || numbered n ls

either-false : (a b : Bool) → (a || b) ≡ false → (a ≡ false) × (b ≡ false)
either-false false false e = (refl, refl)
either-false false true e = absurd (let z : ◌≡◌ {A = ℕ} 0 1 = cc in omega arith)
either-false true b e = absurd (let z : ◌≡◌ {A = ℕ} 0 1 = cc in omega arith)

-- where none has, no refusal does
pub unnumbered : (n : ℕ) (ls : List Line) (q : Refusal) → numbered n ls ≡ false → first_of ls ≡ Some q → q.number ≡ n → ⊥
unnumbered n [] q h e m = let z : ◌≡◌ {A = ℕ} 0 1 = cc in omega arith
unnumbered n (l ∷ ls) q h e m =
    let parts = either-false (eqb l.number n) (numbered n ls) h in
    go l.place (λ f. unnumbered n ls q parts.1 f m) parts.0 e
  where
    go : (o : Option ℕ) → (first_of ls ≡ Some q → ⊥) → eqb l.number n ≡ false → or_refuse l.number o (first_of ls) ≡ Some q → ⊥
    go None rest other f = rest f
    go (Some p) rest other f =
        let same : l.number ≡ q.number = cc in
        let z : ◌≡◌ {A = Bool} true false = sym (eq-eqb l.number n (same ∙ m)) ∙ other in
        let k : ◌≡◌ {A = ℕ} 0 1 = cc in omega arith

-- ---- the first that holds

first-line : (l : Line) (ls : List Line) (q : Refusal) (o : Option ℕ) → l.place ≡ o → (first_of ls ≡ Some q → FirstHolds ls q)
    → or_refuse l.number o (first_of ls) ≡ Some q → FirstHolds (l ∷ ls) q
first-line l ls q (Some p) h k e =
    let n : l.number ≡ q.number = cc in
    let a : p ≡ q.at = cc in
    record {
      before = [];
      after = ls;
      split = ap (λ (o : Option ℕ). line l.number o ∷ ls) h ∙ ap₂ (λ (x y : ℕ). line x (Some y) ∷ ls) n a;
      passed = tt;
    }
first-line l ls q None h k e =
    let r = k e in
    record {
      before = l ∷ r.before;
      after = r.after;
      split = ap (λ (x : List Line). l ∷ x) r.split;
      passed = (h, r.passed);
    }

pub first_holds : (ls : List Line) (q : Refusal) → first_of ls ≡ Some q → FirstHolds ls q
first_holds [] q e = let z : ◌≡◌ {A = ℕ} 0 1 = cc in absurd (omega arith)
first_holds (l ∷ ls) q e = first-line l ls q l.place refl (first_holds ls q) e

pub holds-first : (ls : List Line) (q : Refusal) → FirstHolds ls q → first_of ls ≡ Some q
holds-first ls q r = ap first_of r.split ∙ on-after r.before _ (none-first-of r.before r.passed)
