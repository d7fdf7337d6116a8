-- The moves that stand at the front of a buffer are the ones that were written. Assumes nothing.
use mathlib.Core.Path.{◌≡◌, refl, ap}
use mathlib.Core.List.{List, [], ◌∷◌, ◌++◌}
use Prim.Native.Nat.{ℕ, ◌+◌, ◌-◌}
use native.Mathlib.Omega.{arith}
use lib.ListN.{length, drop}
use Rattle.fairness.specs.Exchange.{Move}
use Rattle.dayfile.specs.Memory.{front}
use Rattle.model.specs.Marks.{move_bytes}
use Rattle.marker.specs.Marking.{moves_in}

-- a number counted from 1 and back
less_one : (n : ℕ) → n + 1 - 1 ≡ n
less_one n = omega arith

pub moves_read : (ms : List Move) (rest : List ℕ) → moves_in (length ms) (move_bytes ms ++ rest) ≡ ms
unfolding moves_in move_bytes
moves_read [] rest = refl
moves_read (m ∷ ms) rest =
    rw (less_one m.window, less_one m.giver, less_one m.taker) (ap (λ ns. m ∷ ns) (moves_read ms rest))

pub moves-in-front : (ms : List Move) (buf : List ℕ) → moves_in (length ms) (front (move_bytes ms) buf) ≡ ms
unfolding front
moves-in-front ms buf = moves_read ms (drop (length (move_bytes ms)) buf)
