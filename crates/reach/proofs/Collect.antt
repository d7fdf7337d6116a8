-- Sets and rows that are collected one number after the other. Assumes nothing.
use mathlib.Core.Path.{sym, ◌∙◌}
use mathlib.Core.Logic.{◌↔◌}
use mathlib.Core.List.{List}
use Prim.Native.Nat.{ℕ, ◌+◌, ◌<◌}
use native.Mathlib.Decide.{ℕ_discrete}
use native.Mathlib.Omega.{arith}
use lib.ListN.{length, set, replicate}
use lib.Seq.{get_or-set_same, get_or-set_other}
use Rattle.lists.proofs.Arrays.{zeros-at}
use Rattle.masks.specs.Sets.{In, Inserted}
use Rattle.masks.proofs.Laws.{bit-zero}
use Rattle.reach.specs.Graphs.{Collects, Rows}

-- ---- a set

pub collect-first : (P : ℕ → Type 0) → Collects 0 P 0
collect-first P i = (λ p. absurd (omega (arith, bit-zero i)), λ p. absurd (omega (arith, p.0)))

module _ (P : ℕ → Type 0) (n m : ℕ) (c : Collects n P m) where
  -- one number more, which has P
  pub collect-in : (m' : ℕ) → P n → Inserted m n m' → Collects (n + 1) P m'
  collect-in m' p ins i = (to, from)
    where
      to : In i m' → (i < n + 1) × P i
      to q = elim (ℕ_discrete i n) [
        | yes e ↦ (omega arith, rw e p)
        | no d ↦ let h = (c i).0 (sym (ins.others i d) ∙ q) in (omega (arith, h.0), h.1)
      ]

      from : (i < n + 1) × P i → In i m'
      from h = elim (ℕ_discrete i n) [ yes e ↦ rw e ins.here | no d ↦ ins.others i d ∙ (c i).1 (omega (arith, h.0), h.1) ]

  -- and one that has not
  pub collect-out : (P n → ⊥) → Collects (n + 1) P m
  collect-out f i = (
    λ q. let h = (c i).0 q in (omega (arith, h.0), h.1),
    λ h. elim (ℕ_discrete i n) [ yes e ↦ absurd (f (rw e at h.1)) | no d ↦ (c i).1 (omega (arith, h.0), h.1) ],
  )

-- ---- rows

-- no sets yet, where no number below n is in the relation
pub rows_none : (P : ℕ → ℕ → Type 0) (n m : ℕ) → ((i k : ℕ) → i < n → P i k → ⊥) → Rows n P (replicate m 0)
rows_none P n m none i k =
    (λ p. absurd (omega (arith, rw (zeros-at m i) at p, bit-zero k)), λ h. absurd (none i k h.0 h.1))

-- one row more
pub rows_next : (P : ℕ → ℕ → Type 0) (n : ℕ) (sets : List ℕ) → Rows n P sets → n < length sets
    → (row : ℕ) → ((k : ℕ) → In k row ↔ P n k) → Rows (n + 1) P (set sets n row)
rows_next P n sets rows long row r i k =
    elim (ℕ_discrete i n) [
      | yes e ↦ rw e (rw (get_or-set_same sets n row 0 long) (λ p. (omega arith, (r k).0 p), λ h. (r k).1 h.1))
      | no d ↦
          rw (get_or-set_other sets n i row 0 d) (
            λ p. let h = (rows i k).0 p in (omega (arith, h.0), h.1),
            λ h. (rows i k).1 (omega (arith, h.0), h.1),
          )
    ]
