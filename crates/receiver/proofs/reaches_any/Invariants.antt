use Prim.Native.Nat.{◌+◌, ◌-◌}
use Rattle.masks.specs.Sets.{size_of}
use Rattle.receiver.proofs.Seeing.{Seen, Looking}
use Rattle.receiver.proofs.reaches_any.Given as goal

abbrev pub invariant-loop-w : goal.invariant-loop-w
invariant-loop-w l = Looking l.graph l.g l.wanted l.k l.initial.seen l.initial.front l.seen l.front l.windows l.w-iterator.left

abbrev pub invariant-loop-front : goal.invariant-loop-front
invariant-loop-front l = Seen l.graph l.g l.wanted l.seen l.front l.windows 0

abbrev pub decreases-loop-front : goal.decreases-loop-front
decreases-loop-front l = 32 + size_of l.front - size_of l.seen
