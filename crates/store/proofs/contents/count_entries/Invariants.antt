use Prim.Native.Nat.{◌-◌, ◌≤◌}
use Rattle.dayfile.specs.Table.{known}
use Rattle.store.specs.Stores.{count}
use Rattle.store.proofs.Slots.{Totalled}
use Rattle.store.proofs.contents.count_entries.Given as goal

abbrev pub invariant-loop-i : goal.invariant-loop-i
invariant-loop-i l = (l.n ≤ l.i) × Totalled count l.slots l.n l.i

abbrev pub decreases-loop-i : goal.decreases-loop-i
decreases-loop-i l = known - l.i
