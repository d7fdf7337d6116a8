-- Two sets that share a member, and the first set that has one. Assumes nothing.
use mathlib.Core.Path.{◌≡◌}
use mathlib.Core.List.{List}
use Prim.Native.Nat.{ℕ, ◌^◌, ◌<◌, min}
use native.Mathlib.Omega.{arith}
use lib.Count.{count_trailing_zeros}
use Rattle.masks.specs.Sets.{bit, In}
use Rattle.masks.proofs.Laws.{bit-lt, bit-zero}
use Rattle.masks.proofs.Machine.{lowest-is}
use Rattle.reach.specs.Graphs.{set_at}
use Rattle.paths.specs.Layers.{Meets}

-- two sets that share a member, and two that share none
module _ (set : ℕ) (sets : List ℕ) (other i both : ℕ) where
  pub meeting : In i set → ((k : ℕ) → bit both k ≡ min (bit (set_at sets i) k) (bit other k)) → 0 < both → both < 2 ^ 32
      → Meets set sets other i
  meeting here shared pos fits =
      let l = count_trailing_zeros 32 both in
      let in_both : In l both = (lowest-is both pos fits).here in
      record {
        member = here;
        shared = l;
        own = omega (arith, shared l, bit-lt (set_at sets i) l);
        others = omega (arith, shared l, bit-lt other l);
      }

  pub not-meeting : ((k : ℕ) → bit both k ≡ min (bit (set_at sets i) k) (bit other k)) → both ≡ 0 → Meets set sets other i → ⊥
  not-meeting shared z m = omega (arith, shared m.shared, rw z at (shared m.shared), bit-zero m.shared, m.own, m.others)
