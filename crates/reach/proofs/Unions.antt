-- The union over the members of a set, which are taken in turn. Assumes nothing.
use mathlib.Core.Path.{◌≡◌}
use mathlib.Core.List.{List}
use Prim.Native.Nat.{ℕ, max}
use native.Mathlib.Decide.{ℕ_discrete}
use native.Mathlib.Omega.{arith}
use Rattle.masks.specs.Sets.{bit, In, Within, Removed, Lowest}
use Rattle.masks.proofs.Laws.{bit-lt, bit-zero}
use Rattle.reach.specs.Graphs.{set_at, Leads, Through, UnionOver}

-- all is the union over the members that are not left
pub record Passed (set : ℕ) (sets : List ℕ) (left all : ℕ) : Type 0 where
  pub within : Within left set
  pub sound : (l : ℕ) → In l all → Through set sets l
  pub whole : (l via : ℕ) → bit left via ≡ 0 → Leads set sets l via → In l all

module _ (set : ℕ) (sets : List ℕ) where
  pub first : Passed set sets set 0
  first = record {
    within = λ k. omega arith;
    sound = λ l p. absurd (omega (arith, bit-zero l));
    whole = λ l via z p. absurd (omega (arith, p.member));
  }

  module _ (left all : ℕ) (b : Passed set sets left all) where
    -- a member that is left is one of the set
    pub member : (i : ℕ) → Lowest left i → In i set
    member i low = omega (arith, low.here, b.within i, bit-lt set i)

    pub joined : (i left' all' : ℕ) → Lowest left i → Removed left i left'
        → ((k : ℕ) → bit all' k ≡ max (bit all k) (bit (set_at sets i) k)) → Passed set sets left' all'
    joined i left' all' low r more = record {
      within = λ k. elim (ℕ_discrete k i) [
        | yes e ↦ rw e (omega (arith, r.here))
        | no d ↦ omega (arith, r.others k d, b.within k)
      ];
      sound = λ l p. elim (ℕ_discrete (bit all l) 1) [
        | yes e ↦ b.sound l e
        | no d ↦
            let leads : In l (set_at sets i) = omega (arith, more l, bit-lt all l, bit-lt (set_at sets i) l) in
            record { via = i; here = record { member = member i low; leads = leads } }
      ];
      whole = λ l via z p. elim (ℕ_discrete via i) [
        | yes e ↦ omega (arith, rw e at p.leads, more l, bit-lt all' l)
        | no d ↦ omega (arith, b.whole l via (omega (arith, r.others via d)) p, more l, bit-lt all' l)
      ];
    }

    pub last : left ≡ 0 → UnionOver set sets all
    last e = record { sound = b.sound; whole = λ l t. b.whole l t.via (rw e (bit-zero t.via)) t.here }
