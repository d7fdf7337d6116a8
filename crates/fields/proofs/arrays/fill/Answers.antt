use mathlib.Core.List.{List}
use mathlib.Core.Path.{◌≡◌, ◌∙◌, ap}
use Prim.Native.Nat.{ℕ, ◌+◌, ◌*◌}
use native.Mathlib.Omega.{arith}
use lib.ListN.{length, replicate, length-replicate}
use Rattle.dayfile.specs.Layout.{field, fields_at}
use Rattle.dayfile.specs.Memory.{sized}
use Rattle.lists.proofs.Arrays.{Least}
use Rattle.fields.specs.Arrays.{Front}
use Rattle.fields.proofs.Filling.{filled-blank}
use Rattle.fields.proofs.arrays.fill.Goals as goal

-- as many fields as there is room for, in an array of zeros
in-zeros : (f : List ℕ) (at n : ℕ) {m : ℕ} {before after : List ℕ} → Front f at m before after → Least n (length before) m →
    (l : ℕ) → before ≡ replicate l 0 → after ≡ sized l (fields_at f at n)
unfolding fields_at sized
in-zeros f at n filled least l e =
    filled-blank (λ (x : ℕ). x) 0 (λ k. field f (at + 2 * k)) n (ap length e ∙ length-replicate l 0) e filled (omega arith) least

pub returns-then-at-m : goal.returns-then-at-m
returns-then-at-m c =
    in-zeros _ _ _ c.copy_fields.ensures c.least-m.ensures

pub returns-else-at-m : goal.returns-else-at-m
returns-else-at-m c =
    in-zeros _ _ _ c.read_fields.ensures c.least-m.ensures
