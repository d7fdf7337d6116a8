-- What the functions on numbers compute: products that fit, and the test on the donor's height without its last credit.
use mathlib.Core.Path.{◌≡◌}
use mathlib.Core.Bool.{◌&&◌, ◌||◌}
use Prim.Native.Nat.{ℕ, ◌-◌, ◌*◌, ◌≤◌, ◌<◌}
use native.Mathlib.Nat.{mul-le-mul}
use native.Mathlib.Omega.{arith}
use lib.Dec.{eqb, ltb}
use Rattle.fairness.specs.Exchange.{improves}

pub product-fits : (height weight : ℕ) → height ≤ 2000000 → weight ≤ 1000 → height * weight < 4294967296
product-fits height weight h w = let p : height * weight ≤ 2000000 * 1000 = mul-le-mul h w in omega arith

pub moderate-fits : (height weight : ℕ) → height ≤ 200000 → weight ≤ 1000 → height * weight < 4294967296
moderate-fits height weight h w = product-fits height weight (omega arith) w

pub rest-fits : (x rest weight : ℕ) → rest ≡ x - 1 → x ≤ 200000 → weight ≤ 1000 → rest * weight < 4294967296
rest-fits x rest weight e h w = moderate-fits rest weight (omega arith) w

pub improves-rest : (h w h' w' r : ℕ) → r ≡ h' - 1 →
    improves h w h' w' ≡ (ltb (h * w') (r * w) || (eqb (h * w') (r * w) && ltb w w'))
unfolding improves
improves-rest h w h' w' r e = rw e
