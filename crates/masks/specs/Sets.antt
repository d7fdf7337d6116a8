-- A set of seats as one number: at most 32 seats, so 32 bits, and bit i says whether seat i is in the set.
-- Membership is the number `bit m i`, 0 or 1, so arithmetic does the reasoning on sets.
use Rattle.std.specs.Prelude.{◌≡◌, ◌≢◌, Option, None, Some, ℕ, zero, suc, ◌+◌, ◌/◌, ◌%◌, ◌<◌, ◌≤◌}
use Rattle.std.specs.Iterator.{Count, at_most}
use Rattle.masks.specs.declared.Members.{Members}

-- the binary digit i of m: 1 where i is in the set m, 0 where it is not
unfoldable pub bit : ℕ → ℕ → ℕ
bit m zero = m % 2
bit m (suc i) = bit (m / 2) i

-- i is in the set m
abbrev pub In : ℕ → ℕ → Type 0
In i m = bit m i ≡ 1

-- every member of a is one of b
abbrev pub Within : ℕ → ℕ → Type 0
Within a b = (k : ℕ) → bit a k ≤ bit b k

-- how many of the numbers below n are in the set m
unfoldable pub count_below : ℕ → ℕ → ℕ
count_below zero m = 0
count_below (suc n) m = count_below n m + bit m n

-- how many seats are in the set m
abbrev pub size_of : ℕ → ℕ
size_of m = count_below 32 m

-- r is m with i in it
pub record Inserted (m i r : ℕ) : Type 0 where
  pub here : In i r
  pub others : (k : ℕ) → k ≢ i → bit r k ≡ bit m k

-- r is m without i
pub record Removed (m i r : ℕ) : Type 0 where
  pub here : bit r i ≡ 0
  pub others : (k : ℕ) → k ≢ i → bit r k ≡ bit m k

-- r is the least number that is in m
pub record Lowest (m r : ℕ) : Type 0 where
  pub small : r < 32
  pub here : In r m
  pub least : (k : ℕ) → k < r → bit m k ≡ 0

-- r has exactly the numbers below n
pub record Full (n r : ℕ) : Type 0 where
  pub inside : (k : ℕ) → k < n → In k r
  pub outside : (k : ℕ) → n ≤ k → bit r k ≡ 0

-- a turn of a walk over the members of a set: the lowest seat comes out of what is left, or nothing is left
abbrev pub TakesLowest : Members → Option ℕ → Members → Type 0
TakesLowest s None t = s.left ≡ 0
TakesLowest s (Some i) t = Lowest s.left i × Removed s.left i t.left

-- as many seats are to come as are left
abbrev pub seats_left : Members → Count
seats_left s = at_most (size_of s.left)
