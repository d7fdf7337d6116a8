-- Fractions x / w compared by cross products, and the same comparison in whole units: with L the product of all weights and a unit of
-- L / w, x / w is x units.
use mathlib.Core.Path.{◌≡◌, sym, ap, ◌∙◌, subst}
use mathlib.Core.Logic.{◌↔◌}
use Prim.Native.Nat.{ℕ, zero, suc, ◌*◌, ◌/◌, ◌≤◌, ◌<◌, ◌∣◌}
use native.Mathlib.Nat.{le_refl, le_antisymm, mul_comm, mul-pos, mul-zero, mul-le-mul_right, mul-mul-mul_comm}
use native.Mathlib.Nat.{le_of_mul-le-mul_right, mul-div_cancel', dvd-mul_left, dvd_trans, dvd-mul_right}
use native.Mathlib.Decide.{dec_lt, ℕ_discrete}
use native.Mathlib.Omega.{arith}

-- ---- the product of the weights

unfoldable pub product : ℕ → (ℕ → ℕ) → ℕ
product zero w = 1
product (suc n) w = product n w * w n

pub product-pos : (n : ℕ) (w : ℕ → ℕ) → ((i : ℕ) → i < n → 0 < w i) → 0 < product n w
unfolding product
product-pos zero w h = le_refl 1
product-pos (suc n) w h = mul-pos (product-pos n w (λ i l. h i (omega arith))) (h n (le_refl (suc n)))

pub product-dvd : (n : ℕ) (w : ℕ → ℕ) (i : ℕ) → i < n → w i ∣ product n w
unfolding product
product-dvd zero w i l = absurd (omega arith)
product-dvd (suc n) w i l = go (λ b. product-dvd n w i b) (ℕ_discrete i n)
  where
    go : (i < n → w i ∣ product n w) → Dec (i ≡ n) → w i ∣ product n w * w n
    go ih (yes e) = subst (λ (x : ℕ). w x ∣ product n w * w n) (sym e) (dvd-mul_left (w n) (product n w))
    go ih (no d) = dvd_trans (w i) (ih (omega arith)) (dvd-mul_right (product n w) (w n))

-- a weight that goes into L, and is not 0
pub record Divides (L w : ℕ) : Type 0 where
  pub positive : 0 < w
  pub divides : w ∣ L

-- the units of 1 / w
unfoldable pub unit : ℕ → ℕ → ℕ
unit L w = L / w

pub unit-mul : (L w : ℕ) → Divides L w → w * unit L w ≡ L
unfolding unit
unit-mul L w d = mul-div_cancel' w d.divides

pub unit-pos : (L w : ℕ) → 0 < L → Divides L w → 0 < unit L w
unit-pos L w p d = go (dec_lt 0 (unit L w))
  where
    go : Dec (0 < unit L w) → 0 < unit L w
    go (yes l) = l
    go (no l) =
        let z : unit L w ≡ 0 = omega arith in
        omega (arith, unit-mul L w d, ap (λ (x : ℕ). w * x) z, mul-zero w)

-- ---- cross products

module _ (L : ℕ) (pos : 0 < L) (v w : ℕ) (dv : Divides L v) (dw : Divides L w) (x y : ℕ) where
  left : x * unit L v * (w * v) ≡ x * w * L
  left = mul-mul-mul_comm x (unit L v) w v ∙ ap (λ (z : ℕ). x * w * z) (mul_comm (unit L v) v ∙ unit-mul L v dv)

  right : y * unit L w * (w * v) ≡ y * v * L
  right =
      ap (λ (z : ℕ). y * unit L w * z) (mul_comm w v) ∙ mul-mul-mul_comm y (unit L w) v w
      ∙ ap (λ (z : ℕ). y * v * z) (mul_comm (unit L w) w ∙ unit-mul L w dw)

  pub cross : (x * w ≤ y * v) ↔ (x * unit L v ≤ y * unit L w)
  cross = (
    λ h. le_of_mul-le-mul_right {k = w * v} (rw (left, right) (mul-le-mul_right L h)) (mul-pos dw.positive dv.positive),
    λ h. le_of_mul-le-mul_right {k = L} (rw (← left, ← right) (mul-le-mul_right (w * v) h)) pos,
  )

module _ (L : ℕ) (pos : 0 < L) (v w : ℕ) (dv : Divides L v) (dw : Divides L w) where
  pub cross-lt : (x y : ℕ) → x * unit L v < y * unit L w → x * w < y * v
  cross-lt x y h = go (dec_lt (x * w) (y * v))
    where
      go : Dec (x * w < y * v) → x * w < y * v
      go (yes l) = l
      go (no l) = absurd (omega (arith, (cross L pos w v dw dv y x).0 (omega arith)))

  pub cross-eq : (x y : ℕ) → x * unit L v ≡ y * unit L w → x * w ≡ y * v
  cross-eq x y h = le_antisymm ((cross L pos v w dv dw x y).1 (omega arith)) ((cross L pos w v dw dv y x).1 (omega arith))

  pub lt-cross : (x y : ℕ) → x * w < y * v → x * unit L v < y * unit L w
  lt-cross x y h = go (dec_lt (x * unit L v) (y * unit L w))
    where
      go : Dec (x * unit L v < y * unit L w) → x * unit L v < y * unit L w
      go (yes l) = l
      go (no l) = absurd (omega (arith, (cross L pos w v dw dv y x).1 (omega arith)))

  pub eq-cross : (x y : ℕ) → x * w ≡ y * v → x * unit L v ≡ y * unit L w
  eq-cross x y h = le_antisymm ((cross L pos v w dv dw x y).0 (omega arith)) ((cross L pos w v dw dv y x).0 (omega arith))

-- the larger unit is that of the smaller weight
pub unit-lt : (L : ℕ) → 0 < L → (v w : ℕ) → Divides L v → Divides L w → unit L w < unit L v → v < w
unit-lt L pos v w dv dw h = omega (arith, cross-lt L pos w v dw dv 1 1 (omega arith))

pub lt-unit : (L : ℕ) → 0 < L → (v w : ℕ) → Divides L v → Divides L w → v < w → unit L w < unit L v
lt-unit L pos v w dv dw h = omega (arith, lt-cross L pos w v dw dv 1 1 (omega arith))
