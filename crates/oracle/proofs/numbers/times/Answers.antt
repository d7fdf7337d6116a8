-- `oracle::numbers::times` does not overflow.
use Rattle.std.proofs.Common.{◌≤◌, mul-le-mul, arith, rules}
use Rattle.oracle.proofs.numbers.times.Goals as goal

pub overflow_mul-result : goal.overflow_mul-result
overflow_mul-result c =
    let p : c.args.a ≤ 4294967295 = search rules in
    let q : c.args.b ≤ 4294967295 = search rules in
    omega (arith, mul-le-mul p q)
