use mathlib.Core.Bool.{not}
use mathlib.Core.Path.{◌∙◌, ap}
use Prim.Native.Nat.{◌+◌, ◌*◌}
use native.Mathlib.Omega.{arith}
use Rattle.dayfile.specs.Table.{offset}
use Rattle.dayfile.proofs.Search.{follow-first, follow-on, follow-hit, follow-end}
use Rattle.writer.proofs.Bounds.{sized-search}
use Rattle.writer.proofs.lines.wrong_in.Goals as goal

pub loop-i-init : goal.loop-i-init
loop-i-init c = follow-first

pub returns-then-not-right_after : goal.returns-then-not-right_after
returns-then-not-right_after c =
    let a = c.args in
    ap (offset (λ k. a.at + 2 * k))
    (follow-hit c.loop-i.invariant (omega arith) c.right_after.ensures c.number-x.ensures.0 (ap not c.if-not-right_after.true))
    ∙ sized-search a.low a.high a.rising a.n a.src.now a.at

pub loop-i-preserved : goal.loop-i-preserved
loop-i-preserved c =
    follow-on c.loop-i.invariant (omega arith) c.right_after.ensures c.number-x.ensures.0 (ap not c.if-not-right_after.false)

pub returns : goal.returns
returns c =
    let a = c.args in
    ap (offset (λ k. a.at + 2 * k)) (follow-end c.loop-i.invariant (omega arith))
    ∙ sized-search a.low a.high a.rising a.n a.src.now a.at
