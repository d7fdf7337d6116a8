-- Members of masks, as tests and lists of masks have them. Assumes nothing.
use mathlib.Core.Path.{◌≡◌, sym, ◌∙◌}
use mathlib.Core.Bool.{Bool, true, false}
use mathlib.Core.List.{List}
use Prim.Native.Nat.{ℕ, ◌<◌, ◌≤◌}
use native.Mathlib.Decide.{ℕ_discrete, dec_lt}
use native.Mathlib.Omega.{arith}
use lib.Dec.{eqb}
use lib.ListN.{length, get_or-eq_default}
use borrow.Author.Tests.{eqb-true, eqb-false}
use Rattle.masks.specs.Sets.{bit, In}
use Rattle.masks.proofs.Laws.{bit-lt, bit-zero}
use Rattle.reach.specs.Graphs.{set_at}

-- what the test of a member says
pub has_in : (m i : ℕ) (r : Bool) → r ≡ eqb (bit m i) 1 → r ≡ true → In i m
has_in m i r e t = eqb-true (bit m i) 1 (sym e ∙ t)

pub has-out : (m i : ℕ) (r : Bool) → r ≡ eqb (bit m i) 1 → r ≡ false → In i m → ⊥
has-out m i r e t = eqb-false (bit m i) 1 (sym e ∙ t)

-- what is not a member has bit 0
pub out-zero : (m i : ℕ) → (In i m → ⊥) → bit m i ≡ 0
out-zero m i f = elim (ℕ_discrete (bit m i) 1) [ yes e ↦ absurd (f e) | no e ↦ omega (arith, bit-lt m i) ]

-- past the end of a list of sets nothing is a member
pub at_small : (sets : List ℕ) (i l : ℕ) → In l (set_at sets i) → i < length sets
at_small sets i l p =
    elim (dec_lt i (length sets)) [
      | yes h ↦ h
      | no h ↦
          let z : length sets ≤ i = omega arith in
          absurd (omega (arith, rw (get_or-eq_default sets 0 z) at p, bit-zero l))
    ]
