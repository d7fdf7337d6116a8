-- Numbers in decimal, and opening times.
use Rattle.std.specs.Prelude.{List, [], ◌∷◌, ◌++◌, ℕ, zero, suc, ◌+◌, ◌*◌, ◌/◌, ◌%◌, nat_lt, if◌then◌else◌}

-- ---- numbers

-- a number in so many decimal digits, leading zeros included: before the last digit, n % 10, those of n / 10
unfoldable pub digits : ℕ → ℕ → List ℕ
digits zero n = []
digits (suc k) n = digits k (n / 10) ++ ((48 + n % 10) ∷ [])

-- how many digits a number takes: 1 below ten, and else one more than a tenth of it does; it looks at no more than k + 1
unfoldable pub width_within : ℕ → ℕ → ℕ
width_within zero n = 1
width_within (suc k) n = if nat_lt n 10 then 1 else suc (width_within k (n / 10))

-- no number has more digits than itself, 0 apart
unfoldable pub width_of : ℕ → ℕ
width_of n = width_within n n

-- a number in decimal, without leading zeros; 0 is "0"
unfoldable pub decimal : ℕ → List ℕ
decimal n = digits (width_of n) n

-- a time of the day, as 0800
unfoldable pub four_digits : ℕ → List ℕ
four_digits n = digits 4 n

-- ---- opening times

-- minutes after midnight as hours and minutes, read as one number: 505 is 825
abbrev hours_minutes : ℕ → ℕ
hours_minutes minutes = minutes / 60 * 100 + minutes % 60

-- when a window opens, counted from 0, as such a number: paper 02's 480 + 25 × (window − 1) minutes, where windows count from 1
unfoldable pub opening_time : ℕ → ℕ
opening_time j = hours_minutes (480 + 25 * j)
