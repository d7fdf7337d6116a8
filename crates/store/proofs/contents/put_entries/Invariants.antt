use Prim.Native.Nat.{◌-◌}
use Rattle.dayfile.specs.Table.{known}
use Rattle.store.proofs.Slots.{Entered}
use Rattle.store.proofs.contents.put_entries.Given as goal

abbrev pub invariant-loop-i : goal.invariant-loop-i
invariant-loop-i l = Entered l.initial.buf l.at l.start l.slots l.i l.p l.body l.buf

abbrev pub decreases-loop-i : goal.decreases-loop-i
decreases-loop-i l = known - l.i
