use Prim.Native.Nat.{◌-◌}
use Rattle.store.specs.Stores.{size}
use Rattle.store.proofs.Slots.{Totalled}
use Rattle.dayfile.specs.Table.{known}
use Rattle.store.proofs.contents.count_fields.Given as goal

abbrev pub invariant-loop-i : goal.invariant-loop-i
invariant-loop-i l = Totalled size l.slots l.n l.i

abbrev pub decreases-loop-i : goal.decreases-loop-i
decreases-loop-i l = known - l.i
