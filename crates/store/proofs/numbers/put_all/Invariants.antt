use Prim.Native.Nat.{◌-◌, ◌≤◌}
use Rattle.dayfile.specs.Memory.{sized}
use Rattle.store.specs.Stores.{Put}
use Rattle.store.proofs.numbers.put_all.Given as goal

abbrev pub invariant-loop-i : goal.invariant-loop-i
invariant-loop-i l = (l.i ≤ l.n) × Put l.initial.buf l.at (sized l.i l.src) l.p l.buf

abbrev pub decreases-loop-i : goal.decreases-loop-i
decreases-loop-i l = l.n - l.i
