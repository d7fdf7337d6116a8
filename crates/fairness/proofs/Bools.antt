-- Laws of truth values: the parts of a true `&&` or `||`, and what it is where its first part is known.
use mathlib.Core.Path.{◌≡◌, refl}
use mathlib.Core.Bool.{Bool, true, false, ◌&&◌, ◌||◌, false≢true, true≢false}
use mathlib.Core.Logic.{◌⊎◌, inl, inr}

pub or_parts : (a b : Bool) → (a || b) ≡ true → (a ≡ true) ⊎ (b ≡ true)
or_parts true b e = inl refl
or_parts false b e = inr e

pub or_right : (a b : Bool) → b ≡ true → (a || b) ≡ true
or_right true b q = refl
or_right false b q = q

pub and_parts : (a b : Bool) → (a && b) ≡ true → (a ≡ true) × (b ≡ true)
and_parts true b e = (refl, e)
and_parts false b e = absurd (false≢true e)

pub and-true : (a b : Bool) → a ≡ true → b ≡ true → (a && b) ≡ true
and-true true b p q = q
and-true false b p q = p

-- a test by parts ends at the first part that decides it

pub and_yes : (a b : Bool) → a ≡ true → b ≡ (a && b)
and_yes true b e = refl
and_yes false b e = absurd (false≢true e)

pub and_no : (a b : Bool) → a ≡ false → a ≡ (a && b)
and_no true b e = absurd (true≢false e)
and_no false b e = refl

pub or_yes : (a b : Bool) → a ≡ true → a ≡ (a || b)
or_yes true b e = refl
or_yes false b e = absurd (false≢true e)

pub or_no : (a b : Bool) → a ≡ false → b ≡ (a || b)
or_no true b e = absurd (true≢false e)
or_no false b e = refl
