-- `fulfil::body_length` meets its contract.
use mathlib.Core.Path.{ap₂}
use Prim.Native.Nat.{ℕ, ◌*◌}
use native.Mathlib.Omega.{arith}
use Rattle.fields.proofs.Products.{small}
use Rattle.fulfil.proofs.body_length.Goals as goal

pub overflow_mul-result : goal.overflow_mul-result
overflow_mul-result c = let p = small c.seats.ensures.1 c.windows.ensures.1 in omega arith

pub overflow_mul-result-2 : goal.overflow_mul-result-2
overflow_mul-result-2 c = let p = small c.seats.ensures.1 c.windows.ensures.1 in omega arith

pub returns : goal.returns
returns c = ap₂ (λ (n m : ℕ). 2 * (n * m)) c.seats.ensures.0 c.windows.ensures.0
