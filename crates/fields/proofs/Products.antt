-- A product of two numbers of fifteen bits.
-- Assumes nothing.
use Prim.Native.Nat.{ℕ, ◌*◌, ◌<◌}
use native.Mathlib.Nat.{le_of_lt, lt_of_le_of_lt, mul-le-mul_left, mul-le-mul_right}
use native.Mathlib.Omega.{arith}

pub small : {a b : ℕ} → a < 32768 → b < 32768 → a * b < 1073741824
small {a} {b} p q = lt_of_le_of_lt (mul-le-mul_left a (le_of_lt q)) (omega (arith, mul-le-mul_right 32768 p))
