use mathlib.Core.Path.{◌≡◌}
use Prim.Native.Nat.{ℕ, ◌+◌, ◌-◌, ◌*◌}
use lib.ListN.{length}
use Rattle.dayfile.specs.Layout.{field}
use Rattle.lists.proofs.Arrays.{Filled}
use Rattle.fields.proofs.arrays.copy_fields.Given as goal

abbrev pub invariant-loop-i : goal.invariant-loop-i
invariant-loop-i l =
    Filled (λ k (x : ℕ). x ≡ field l.file (l.at + 2 * k)) 0 (length l.initial.array) l.m l.initial.array l.i l.array
    × (l.p ≡ l.at + 2 * l.i)

abbrev pub decreases-loop-i : goal.decreases-loop-i
decreases-loop-i l = l.m - l.i
