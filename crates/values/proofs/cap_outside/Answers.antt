use mathlib.Core.Path.{ap₂}
use Prim.Native.Nat.{ℕ, ◌*◌}
use native.Mathlib.Omega.{arith}
use Rattle.dayfile.specs.Table.{line12}
use Rattle.dayfile.proofs.Search.{outside-as}
use Rattle.fields.proofs.Products.{small}
use Rattle.values.proofs.cap_outside.Goals as goal

pub overflow_mul-seats : goal.overflow_mul-seats
overflow_mul-seats c = let p = small c.seats.ensures.1 c.windows.ensures.1 in omega arith

pub outside-requires : goal.outside-requires
outside-requires c =
    let p = small c.seats.ensures.1 c.windows.ensures.1 in omega (arith, c.start.ensures.1)

pub returns : goal.returns
unfolding line12
returns c =
    let cells = ap₂ (λ (a b : ℕ). a * b) c.seats.ensures.0 c.windows.ensures.0 in
    outside-as _ 0 4095 c.outside.ensures c.start.ensures.0 cells
