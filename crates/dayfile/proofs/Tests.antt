-- Tests joined by `and`, chosen by `cond`, and the line of a table that holds where a test fails.
-- Assumes nothing.
use mathlib.Core.Bool.{Bool, true, false, not, cond, ◌&&◌}
use Rattle.std.specs.Prelude.{Option, None, Some}
use mathlib.Core.Path.{◌≡◌, refl, sym, ◌∙◌, ap, ap₂}
use Prim.Native.Nat.{ℕ, ◌≤◌, ◌<◌}
use native.Mathlib.Omega.{arith}
use lib.Dec.{leb, ltb}
use borrow.Author.Tests.{leb-true, le-leb, ltb-true, lt-ltb}
use Rattle.model.specs.Lowest.{when}
use Rattle.model.proofs.Tests.{and-true}
use Rattle.dayfile.specs.Table.{within, right_after}

pub and_yes : {a : Bool} (b : Bool) → a ≡ true → b ≡ (a && b)
and_yes b p = ap (λ (x : Bool). x && b) (sym p)

pub and_no : {a : Bool} (b : Bool) → a ≡ false → a ≡ (a && b)
and_no b p = p ∙ ap (λ (x : Bool). x && b) (sym p)

pub cond_yes : {A : Type 0} {t : Bool} (x y : A) → t ≡ true → x ≡ cond t x y
cond_yes x y p = ap (λ (b : Bool). cond b x y) (sym p)

pub cond_no : {A : Type 0} {t : Bool} (x y : A) → t ≡ false → y ≡ cond t x y
cond_no x y p = ap (λ (b : Bool). cond b x y) (sym p)

-- ---- low to high

pub within_low : (low high x : ℕ) → within low high x ≡ true → low ≤ x
within_low low high x e = leb-true low x ((and-true (leb low x) (leb x high)).0 e).0

pub within-high : (low high x : ℕ) → within low high x ≡ true → x ≤ high
within-high low high x e = leb-true x high ((and-true (leb low x) (leb x high)).0 e).1

-- the same of a number that equals it
pub low-as : (low high : ℕ) {x y : ℕ} → x ≡ y → within low high y ≡ true → low ≤ x
low-as low high {x} {y} q e = within_low low high x (ap (within low high) q ∙ e)

pub high-as : (low high : ℕ) {x y : ℕ} → x ≡ y → within low high y ≡ true → x ≤ high
high-as low high {x} {y} q e = within-high low high x (ap (within low high) q ∙ e)

pub is_within : (low high x : ℕ) → low ≤ x → x ≤ high → within low high x ≡ true
is_within low high x h k = ap₂ (λ (a b : Bool). a && b) (le-leb low x h) (le-leb x high k)

-- ---- and greater than the one before

pub rises-within : (low high before x : ℕ) → before < x → low ≤ x → x ≤ high → right_after low high true before x ≡ true
rises-within low high before x r h k = ap₂ (λ (a b : Bool). a && b) (lt-ltb before x r) (is_within low high x h k)

module _ (low high before x : ℕ) (e : right_after low high true before x ≡ true) where
  pub after-rises : before < x
  after-rises = ltb-true before x ((and-true (ltb before x) (within low high x)).0 e).0

  pub after-low : low ≤ x
  after-low = within_low low high x ((and-true (ltb before x) (within low high x)).0 e).1

  pub after-high : x ≤ high
  after-high = within-high low high x ((and-true (ltb before x) (within low high x)).0 e).1

-- ---- a number that is told

-- the code's test of a number that is told
pub within-as : (low high x : ℕ) {t : Bool} {y : ℕ} → t ≡ within low high x → x ≡ y → t ≡ within low high y
within-as low high x e q = e ∙ ap (within low high) q

pub outside-at-as : (low high x at : ℕ) {r : Option ℕ} {y : ℕ}
    → r ≡ when (not (within low high x)) at → x ≡ y → r ≡ when (not (within low high y)) at
outside-at-as low high x at e q = e ∙ ap (λ (x : ℕ). when (not (within low high x)) at) q

-- ---- a line whose condition is a test, or that a test fails: t is the code's test

pub yes-when : {b : Bool} (p : ℕ) → b ≡ true → Some p ≡ when b p
yes-when p h = ap (λ (x : Bool). when x p) (sym h)

pub no-when : {b : Bool} (p : ℕ) → b ≡ false → None ≡ when b p
no-when p h = ap (λ (x : Bool). when x p) (sym h)

pub keeps : {t b : Bool} (p : ℕ) → t ≡ b → t ≡ true → None ≡ when (not b) p
keeps p e h = ap (λ (x : Bool). when (not x) p) (sym h ∙ e)

pub fails : {t b : Bool} (p : ℕ) → t ≡ b → t ≡ false → Some p ≡ when (not b) p
fails p e h = ap (λ (x : Bool). when (not x) p) (sym h ∙ e)

-- the code's test, turned round
pub turned : {t b v : Bool} → t ≡ b → not t ≡ v → not b ≡ v
turned e h = ap not (sym e) ∙ h

pub when-none : (t : Bool) (p : ℕ) → when t p ≡ None → t ≡ false
when-none false p e = refl
when-none true p e = let z : ◌≡◌ {A = ℕ} 0 1 = cc in absurd (omega arith)
