-- `oracle::numbers::multiply` does not overflow.
use Rattle.std.proofs.Common.{◌≤◌, mul-le-mul_left, arith, rules}
use Rattle.oracle.proofs.numbers.multiply.Goals as goal

pub overflow_mul-result : goal.overflow_mul-result
overflow_mul-result c =
    let p : c.args.a ≤ 1000000 = search rules in
    let q : c.args.weight ≤ 1000 = search rules in
    omega (arith, p, mul-le-mul_left c.args.a q)

pub returns : goal.returns
returns c =
    let q : c.args.weight ≤ 1000 = search rules in
    omega (arith, mul-le-mul_left c.args.a q)
