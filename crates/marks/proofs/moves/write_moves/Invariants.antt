use Prim.Native.Nat.{◌*◌}
use Rattle.lists.specs.Buffers.{Stored}
use Rattle.marks.proofs.Coding.{coded}
use Rattle.marks.proofs.moves.write_moves.Given as goal

abbrev pub invariant-loop-i : goal.invariant-loop-i
invariant-loop-i l = Stored l.initial.out 0 (coded l.i l.m-items) l.out (3 * l.i)
