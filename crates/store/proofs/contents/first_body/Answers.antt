use mathlib.Core.Path.{◌∙◌, ap}
use Prim.Native.Nat.{ℕ, ◌+◌, ◌*◌}
use native.Mathlib.Omega.{arith}
use Rattle.store.specs.Stores.{entries}
use Rattle.store.proofs.contents.first_body.Goals as goal

pub returns : goal.returns
returns c =
    let n = c.count_entries.ensures in
    (ap (λ (i : ℕ). 2 + 6 * i) (n.0 ∙ ap entries c.slots_of.ensures), omega (arith, n.1))
