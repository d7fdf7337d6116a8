use mathlib.Core.Path.{refl}
use native.Mathlib.Nat.{mul-le-mul}
use native.Mathlib.Omega.{arith}
use Rattle.store.proofs.contents.cells.Goals as goal

pub overflow_mul-result : goal.overflow_mul-result
overflow_mul-result c = let q = mul-le-mul c.requires.0 c.requires.1 in omega arith

pub returns : goal.returns
returns c = refl
