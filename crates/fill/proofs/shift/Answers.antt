-- `fill::shift` meets its contract: what a step lets through leaves a filled grid filled.
use Rattle.std.proofs.Common.{arith}
use Rattle.fill.proofs.Shifts.{shifted}
use Rattle.fill.proofs.shift.Goals as goal

pub returns : goal.returns
returns c =
    let a = c.args in
    let s = a.step in
    let p = c.passes.ensures in
    record {
      kept = λ supplies f.
          shifted a.size.seats a.size.windows a.caps.now supplies a.grid.now f a.size.in_range.0 a.size.in_range.1
          s.window s.giver s.taker c.min-a.result (omega arith) (omega arith) (omega arith) (omega (arith, p.has)) (omega (arith, p.free));
    }
