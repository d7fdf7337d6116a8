-- Places in paper 02's order of the seat rule: no two seats share one, and the order runs from the first seat up to the last and on from
-- seat 1. Seats count from 0 here, but for the one that comes first. Assumes nothing.
use mathlib.Core.Path.{◌≡◌, ap}
use mathlib.Core.Bool.{Bool, true, false, cond}
use Prim.Native.Nat.{ℕ, ◌+◌, ◌-◌, ◌≤◌, ◌<◌}
use native.Mathlib.Decide.{dec_lt}
use native.Mathlib.Omega.{arith}
use lib.Dec.{ltb}
use borrow.Author.Tests.{lt-ltb, le-ltb}
use Rattle.model.specs.Book.{place_from}

pub place-apart : (first n i k : ℕ) → i < n → k < n → place_from first n i ≡ place_from first n k → i ≡ k
unfolding place_from
place-apart first n i k li lk = apart (ltb (i + 1) first) (ltb (k + 1) first)
  where
    apart : (s t : Bool) → cond s (n + i) i ≡ cond t (n + k) k → i ≡ k
    apart true true e = omega (arith, e)
    apart true false e = omega (arith, e)
    apart false true e = omega (arith, e)
    apart false false e = e

module _ (first n : ℕ) where
  -- the place of a seat before the first one, and of the others
  after : (i : ℕ) → i + 1 < first → place_from first n i ≡ n + i
  unfolding place_from
  after i h = ap (λ (t : Bool). cond t (n + i) i) (lt-ltb (i + 1) first h)

  own : (i : ℕ) → first ≤ i + 1 → place_from first n i ≡ i
  unfolding place_from
  own i h = ap (λ (t : Bool). cond t (n + i) i) (le-ltb (i + 1) first h)

  -- the first seat comes before every other
  pub first-comes-first : (i : ℕ) → 1 ≤ first → first ≤ n → i < n → (i + 1 ≡ first → ⊥)
      → place_from first n (first - 1) < place_from first n i
  first-comes-first i low high l other =
      let here = own (first - 1) (omega arith) in
      elim (dec_lt (i + 1) first) [
        | yes h ↦ omega (arith, here, after i h)
        | no h ↦ (let q : first < i + 1 = above h in omega (arith, here, own i (omega arith)))
      ]
    where
      above : (i + 1 < first → ⊥) → first < i + 1
      above h = elim (dec_lt first (i + 1)) [ yes q ↦ q | no q ↦ absurd (other (omega arith)) ]

  -- up to the last seat, each comes before the next one, where that is not the first
  pub next-comes-next : (i : ℕ) → i + 1 < n → (i + 2 ≡ first → ⊥) → place_from first n i < place_from first n (i + 1)
  next-comes-next i l other =
      elim (dec_lt (i + 2) first) [
        | yes h ↦ omega (arith, after i (omega arith), after (i + 1) (omega arith))
        | no h ↦ (let q : first ≤ i + 1 = below h in omega (arith, own i q, own (i + 1) (omega arith)))
      ]
    where
      below : (i + 2 < first → ⊥) → first ≤ i + 1
      below h = elim (dec_lt first (i + 2)) [ yes q ↦ omega arith | no q ↦ absurd (other (omega arith)) ]

  -- and on from seat 1, where that is not the first: the last seat comes before it
  pub one-after-last : 1 < first → first ≤ n → place_from first n (n - 1) < place_from first n 0
  one-after-last low high = omega (arith, own (n - 1) (omega arith), after 0 (omega arith))
