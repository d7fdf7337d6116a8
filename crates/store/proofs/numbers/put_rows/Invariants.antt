use Prim.Native.Nat.{◌-◌, ◌≤◌}
use Rattle.dayfile.specs.File.{flat}
use Rattle.dayfile.specs.Memory.{sized_grid}
use Rattle.store.specs.Stores.{Put}
use Rattle.store.proofs.numbers.put_rows.Given as goal

abbrev pub invariant-loop-i : goal.invariant-loop-i
invariant-loop-i l = (l.i ≤ l.n) × Put l.initial.buf l.at (flat (sized_grid l.i l.m l.grid)) l.p l.buf

abbrev pub decreases-loop-i : goal.decreases-loop-i
decreases-loop-i l = l.n - l.i
