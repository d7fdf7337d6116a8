-- The bytes of a written chain.
use mathlib.Core.Path.{◌≡◌, refl}
use mathlib.Core.List.{List, [], ◌∷◌}
use Prim.Native.Nat.{◌*◌}
use native.Mathlib.Omega.{arith}
use lib.ListN.{length}
use Rattle.fairness.specs.Exchange.{Move}
use Rattle.model.specs.Marks.{move_bytes}

pub move-bytes-length : (ms : List Move) → length (move_bytes ms) ≡ 3 * length ms
unfolding move_bytes
move-bytes-length [] = refl
move-bytes-length (m ∷ ms) = omega (arith, move-bytes-length ms)
