-- Progress: one more credit where some are left, and an exchange along an improving path, give a better sheet.
use mathlib.Core.Path.{◌≡◌, refl, sym, ap}
use Prim.Native.Nat.{ℕ, suc, ◌+◌, ◌*◌, ◌≤◌, ◌<◌}
use native.Mathlib.Decide.{ℕ_discrete}
use native.Mathlib.Omega.{arith}
use Rattle.fairness.specs.Sums.{keep}
use Rattle.fairness.specs.Instance.{Instance, Proper, Sheet, Feasible, Wasteful, placed, total, height}
use Rattle.fairness.specs.Leximin.{Better}
use Rattle.fairness.specs.Exchange.{one, hit}
use Rattle.fairness.proofs.Sums.{sum-add}
use Rattle.fairness.proofs.Decide.{keep-yes, keep-no}
use Rattle.fairness.proofs.Plays.{hit-row, hit-column, hit-within}
use Rattle.fairness.proofs.Potential.{φ, φ-lt, φ-eq, φ-pos, potential-raise, potential-exchange}
use Rattle.fairness.proofs.Levels.{Prefers, u, u-pos, u_eq, level-units, prefers-units}
use Rattle.fairness.proofs.Wanted.{Wanted}
use Rattle.fairness.proofs.Profiles.{B, big, bound, pot, potential-Better}

-- S' has one credit more at seat g, and one less at seat l
abbrev pub Exchanged : Instance → Sheet → Sheet → ℕ → ℕ → Type 0
Exchanged I S S' g l = (a : ℕ) → a < I.seats → total I S' a + one l a ≡ total I S a + one g a

module _ (I : Instance) (proper : Proper I) where
  -- ---- an exchange

  module _ (S S' : Sheet) (g l k : ℕ) (lg : g < I.seats) (ll : l < I.seats) (ne : g ≡ l → ⊥)
      (totals : Exchanged I S S' g l) (e : height I S l ≡ suc k)
    where
      exchanged : (N : ℕ) → pot I N S' + φ (B I) (big I) N (u I) g (height I S g) ≡ pot I N S + φ (B I) (big I) N (u I) l k
      exchanged N =
          omega (
            arith,
            potential-exchange (B I) (big I) N (u I) I.seats g l (height I S) (height I S') lg ll (λ a b. omega (arith, totals a b)),
            ap (φ (B I) (big I) N (u I) l) rest,
          )
        where
          rest : height I S' l ≡ k
          rest = omega (arith, totals l ll, keep-yes (ℕ_discrete l l) 1 refl, keep-no (ℕ_discrete l g) 1 (λ p. ne (sym p)))

      -- it lowers the potential, where it improves
      pub exchange-lowers : (N : ℕ) → height I S l * u I l < N → Prefers I g (height I S g) l k → pot I N S' < pot I N S
      exchange-lowers N b p =
          omega (
            arith,
            φ-lt (B I) (big I) N (u I) g (height I S g) l k (u-pos I proper g lg) (rw (← e) b)
                (prefers-units I proper g l lg ll (height I S g) k p),
            exchanged N,
          )

      -- and keeps it, between equal levels and weights
      pub exchange-keeps : (N : ℕ) → height I S g * I.weight l ≡ k * I.weight g → I.weight g ≡ I.weight l → pot I N S' ≡ pot I N S
      exchange-keeps N p q =
          omega (
            arith,
            φ-eq (B I) (big I) N (u I) g (height I S g) l k ((level-units I proper g l lg ll (height I S g) k).0 p) (u_eq I proper g l q),
            exchanged N,
          )

  pub exchange-Better : (S S' : Sheet) (g l : ℕ) → Wanted I S (Prefers I) g l → Exchanged I S S' g l → Better I S S'
  exchange-Better S S' g l w totals =
      let N : ℕ = bound I S + height I S l * u I l + 1 in
      potential-Better I proper N S S' (omega arith)
      (exchange-lowers S S' g l w.rest w.in-receiver w.in-donor w.apart totals w.last N (omega arith) w.before)

  -- ---- one credit more

  module _ (S : Sheet) (w : Wasteful I S) where
    abbrev more : Sheet
    more a b = S a b + hit w.seat w.window a b

    more-placed : (b : ℕ) → placed I more b ≡ placed I S b + one w.window b
    more-placed b =
        omega (
          arith,
          sum-add I.seats (λ a. S a b) (λ a. hit w.seat w.window a b),
          hit-column I.seats w.seat w.window b w.in_seat,
        )

    more-total : (a : ℕ) → total I more a ≡ total I S a + one w.seat a
    more-total a =
        omega (
          arith,
          sum-add I.windows (λ b. S a b) (λ b. hit w.seat w.window a b),
          hit-row I.windows w.seat w.window a w.in_window,
        )

    pub more-feasible : Feasible I S → Feasible I more
    more-feasible f =
        record {
          within = λ a b la lb. hit-within I S w.seat w.window a b w.room (f.within a b la lb);
          fits = λ b lb. go b (ℕ_discrete b w.window) (more-placed b) (f.fits b lb);
        }
      where
        go : (b : ℕ) (d : Dec (b ≡ w.window)) → placed I more b ≡ placed I S b + keep d 1 → placed I S b ≤ I.supply b →
            placed I more b ≤ I.supply b
        go b (yes q) e h = let left : placed I S b < I.supply b = rw q w.left in omega arith
        go b (no q) e h = omega arith

    pub more-Better : Better I S more
    more-Better =
        let N : ℕ = bound I S + height I S w.seat * u I w.seat + 1 in
        potential-Better I proper N S more (omega arith)
        (omega (
          arith,
          potential-raise (B I) (big I) N (u I) I.seats w.seat (height I S) (height I more) w.in_seat
              (λ a b. omega (arith, more-total a)),
          φ-pos (B I) (big I) N (u I) w.seat (height I S w.seat) (u-pos I proper w.seat w.in_seat) (omega arith),
        ))
