use mathlib.Core.Path.{ap}
use Prim.Native.Nat.{ℕ, ◌+◌, ◌*◌}
use native.Mathlib.Nat.{mul-le-mul}
use native.Mathlib.Omega.{arith}
use Rattle.writer.proofs.lines.ahead_of_first.Goals as goal

pub overflow_mul-cells : goal.overflow_mul-cells
overflow_mul-cells c = let q = mul-le-mul c.requires.0 c.requires.1 in omega arith

pub overflow_add-result-2 : goal.overflow_add-result-2
overflow_add-result-2 c = let q = mul-le-mul c.requires.0 c.requires.1 in omega (arith, c.requires)

pub overflow_add-result-3 : goal.overflow_add-result-3
overflow_add-result-3 c =
    let q = mul-le-mul c.requires.0 c.requires.1 in omega (arith, c.requires, c.size_if.ensures.1)

pub returns : goal.returns
returns c =
    let b = c.args.book in
    let q = mul-le-mul c.requires.0 c.requires.1 in (
      ap (λ (k : ℕ). b.seats + b.windows + b.seats * b.windows + k) c.size_if.ensures.0,
      omega (arith, c.requires, c.size_if.ensures.1),
    )
