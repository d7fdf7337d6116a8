-- Paper 01's opening times.
use mathlib.Core.Path.{◌≡◌, refl}
use mathlib.Core.List.{[], ◌∷◌}
use Prim.Native.Nat.{ℕ}
use Rattle.fairness.specs.Leximin.{table}
use Rattle.std.specs.Prelude.{codes}
use Rattle.text.specs.Text.{digits, four_digits, opening_time}

-- the formula gives each of them, in four digits: those of windows 1 to 24, in order
pub opening-times :
    table 24 (λ (j : ℕ). four_digits (opening_time j))
    ≡ codes "0800" ∷ codes "0825" ∷ codes "0850" ∷ codes "0915" ∷ codes "0940" ∷ codes "1005"
    ∷ codes "1030" ∷ codes "1055" ∷ codes "1120" ∷ codes "1145" ∷ codes "1210" ∷ codes "1235"
    ∷ codes "1300" ∷ codes "1325" ∷ codes "1350" ∷ codes "1415" ∷ codes "1440" ∷ codes "1505"
    ∷ codes "1530" ∷ codes "1555" ∷ codes "1620" ∷ codes "1645" ∷ codes "1710" ∷ codes "1735" ∷ []
unfolding table digits four_digits opening_time
opening-times = refl
