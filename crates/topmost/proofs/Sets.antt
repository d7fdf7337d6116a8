-- Sets that share a member, and a set that takes in another. Assumes nothing.
use mathlib.Core.Path.{◌≡◌}
use mathlib.Core.Logic.{inl, inr, ⊎_elim}
use mathlib.Core.List.{List}
use Prim.Native.Nat.{ℕ, ◌^◌, ◌+◌, ◌-◌, ◌<◌, min, max}
use native.Mathlib.Decide.{ℕ_discrete}
use native.Mathlib.Omega.{arith}
use lib.Count.{count_trailing_zeros}
use Rattle.masks.specs.Sets.{bit, In, Full}
use Rattle.masks.proofs.Laws.{bit-lt, bit-zero}
use Rattle.masks.proofs.Machine.{lowest-is}
use Rattle.reach.specs.Graphs.{set_at}
use Rattle.topmost.specs.Sweep.{Share, Clear, Widened}

-- what two sets have in common
module _ (a b both : ℕ) (common : (k : ℕ) → bit both k ≡ min (bit a k) (bit b k)) where
  pub share : 0 < both → both < 2 ^ 32 → Share a b
  share pos fits =
      let k = count_trailing_zeros 32 both in
      let in_both : In k both = (lowest-is both pos fits).here in
      record { member = k; of_first = omega (arith, common k, bit-lt a k); of_second = omega (arith, common k, bit-lt b k) }

  pub no-share : both ≡ 0 → Share a b → ⊥
  no-share z s =
      let k = s.member in
      omega (arith, common k, rw z at (common k), bit-zero k, s.of_first, s.of_second)

module _ (set holds : ℕ) where
  pub widens : (beyond more : ℕ) → ((k : ℕ) → bit more k ≡ max (bit set k) (bit beyond k)) → Share set holds
      → Widened set holds (λ v. In v beyond) more
  widens beyond more joined s v = (
    λ p. elim (ℕ_discrete (bit set v) 1) [
      | yes e ↦ inl e
      | no d ↦ inr (s, omega (arith, joined v, bit-lt set v, bit-lt beyond v))
    ],
    ⊎_elim (λ p. omega (arith, joined v, bit-lt more v)) (λ p. omega (arith, joined v, p.1, bit-lt more v)),
  )

  pub stays : (P : ℕ → Type 0) → (Share set holds → ⊥) → Widened set holds P set
  stays P out v = (inl, ⊎_elim (λ p. p) (λ p. absurd (out p.0)))

-- ---- the windows of a row, one after the other

pub clear_first : (sets : List ℕ) (rooms holds : ℕ) → Clear 0 sets rooms holds
clear_first sets rooms holds j w l = absurd (omega arith)

pub clear_next : (n : ℕ) (sets : List ℕ) (rooms holds : ℕ) → Clear n sets rooms holds
    → (In n rooms → (w : ℕ) → n < w → In w (set_at sets n) → bit holds w ≡ 0) → Clear (n + 1) sets rooms holds
clear_next n sets rooms holds c here j w l r a m =
    elim (ℕ_discrete j n) [
      | yes e ↦ here (rw e at r) w (rw e at a) (rw e at m)
      | no d ↦ c j w (omega arith) r a m
    ]

-- no later window of a set is in holds
pub none_after : (set holds n low after both : ℕ) → Full (n + 1) low → ((k : ℕ) → bit after k ≡ bit holds k - bit low k)
    → ((k : ℕ) → bit both k ≡ min (bit set k) (bit after k)) → both ≡ 0 → (w : ℕ) → n < w → In w set → bit holds w ≡ 0
none_after set holds n low after both f rest common z w l p =
    omega (arith, f.outside w (omega arith), rest w, common w, rw z at (common w), bit-zero w)
