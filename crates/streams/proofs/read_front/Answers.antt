use Rattle.std.proofs.Common.{rules}
use Rattle.std.proofs.KnownBytes.{Consumes-kept}
use Rattle.streams.proofs.Turns.{one-read, none-read}
use Rattle.streams.proofs.read_front.Goals as goal
use Rattle.streams.proofs.read_front.Goals.{in-Ok, in-Err}

pub loop-preserved : goal.loop-preserved
loop-preserved g c =
    let (long, within, given) = c.loop.invariant in
    elim c.match-read.branch [
      | in-Ok w ↦ (
        search rules,
        search rules,
        rw w.at-is (one-read _ _ _ _ _ _ _ _ within w.in-Ok.ensures.bound.0 given w.in-Ok.ensures.bytes.0),
      )
      | in-Err w ↦ (
        search rules,
        search rules,
        rw w.at-is (none-read _ _ _ _ _ _ within (Consumes-kept _ _ _ _ given w.in-Err.ensures.bytes)),
      )
    ]
