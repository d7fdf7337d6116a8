use Prim.Native.Nat.{ℕ, ◌+◌, ◌*◌}
use mathlib.Core.Path.{ap₂}
use native.Mathlib.Omega.{arith}
use Rattle.dayfile.specs.Layout.{field}
use Rattle.fields.proofs.field.Goals as goal

pub returns : goal.returns
unfolding field
returns c =
    let low = c.byte.ensures in
    let high = c.byte-2.ensures in (ap₂ (λ (a b : ℕ). a + 256 * b) low.0 high.0, omega arith)
