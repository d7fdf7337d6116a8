-- A measure that each wanted exchange lowers: the potential first, and at a tie the sum of position × height.
use mathlib.Core.Path.{◌≡◌, refl, ap, ap₂}
use mathlib.Core.Logic.{inl, inr}
use Prim.Native.Nat.{ℕ, suc, ◌+◌, ◌*◌, ◌-◌, ◌^◌, ◌≤◌, ◌<◌}
use native.Mathlib.Nat.{mul-suc, suc-mul, mul-le-mul_left, mul-le-mul_right}
use native.Mathlib.Decide.{ℕ_discrete}
use native.Mathlib.Omega.{arith}
use Rattle.fairness.specs.Sums.{sum, keep}
use Rattle.fairness.specs.Instance.{Instance, Proper, Sheet, Feasible, total, height}
use Rattle.fairness.specs.Exchange.{one}
use Rattle.fairness.proofs.Sums.{sum-le, sum-eq, sum-add, sum-term}
use Rattle.fairness.proofs.Decide.{sum-at}
use Rattle.fairness.proofs.Levels.{Prefers, Precedes, Tie, u}
use Rattle.fairness.proofs.Wanted.{Wanted}
use Rattle.fairness.proofs.Potential.{potential}
use Rattle.fairness.proofs.Profiles.{B, pot}
use Rattle.fairness.proofs.Progress.{Exchanged, exchange-lowers, exchange-keeps}

module _ (I : Instance) where
  -- ---- bounds on what a feasible sheet has

  ceiling : ℕ → ℕ
  ceiling i = I.base i + sum I.windows (λ j. I.cap i j)

  height_most : (S : Sheet) → Feasible I S → (i : ℕ) → i < I.seats → height I S i ≤ ceiling i
  unfolding ceiling
  height_most S f i l = omega (arith, sum-le I.windows (λ j. S i j) (λ j. I.cap i j) (λ j b. f.within i j l b))

  -- above every level
  N : ℕ
  N = 1 + sum I.seats (λ i. ceiling i * u I i)

  below-N : (S : Sheet) → Feasible I S → (i : ℕ) → i < I.seats → height I S i * u I i < N
  unfolding N
  below-N S f i l =
      omega (arith, mul-le-mul_right (u I i) (height_most S f i l), sum-term I.seats (λ a. ceiling a * u I a) i l)

  -- ---- the sum of position × height

  weighed : (ℕ → ℕ) → ℕ
  weighed h = sum I.seats (λ i. I.position i * h i)

  -- above it
  K : ℕ
  K = 1 + weighed ceiling

  below-K : (S : Sheet) → Feasible I S → weighed (height I S) < K
  unfolding weighed K
  below-K S f = omega (arith, sum-le I.seats _ _ (λ i l. mul-le-mul_left (I.position i) (height_most S f i l)))

  weighed-raise : (g : ℕ) (h h' : ℕ → ℕ) → g < I.seats → ((a : ℕ) → a < I.seats → h' a ≡ h a + one g a) →
      weighed h' ≡ weighed h + I.position g
  unfolding weighed
  weighed-raise g h h' lg e =
      omega (
        arith,
        sum-eq I.seats (λ a. I.position a * h' a) (λ a. I.position a * h a + keep (ℕ_discrete a g) (I.position g))
            (λ a l. at a (ℕ_discrete a g) (e a l)),
        sum-add I.seats (λ a. I.position a * h a) (λ a. keep (ℕ_discrete a g) (I.position g)),
        sum-at I.seats g (I.position g) lg,
      )
    where
      at : (a : ℕ) (d : Dec (a ≡ g)) → h' a ≡ h a + keep d 1 → I.position a * h' a ≡ I.position a * h a + keep d (I.position g)
      at a (yes p) b =
          let z : h' a ≡ suc (h a) = omega arith in
          rw (z, ← p) (omega (arith, mul-suc (I.position a) (h a)))
      at a (no p) b = let z : h' a ≡ h a = omega arith in rw z (omega arith)

  weighed-exchange : (S S' : Sheet) (g l : ℕ) → g < I.seats → l < I.seats → Exchanged I S S' g l →
      weighed (height I S') + I.position l ≡ weighed (height I S) + I.position g
  weighed-exchange S S' g l lg ll totals =
      omega (
        arith,
        weighed-raise g (height I S) (λ a. height I S a + one g a) lg (λ a b. refl),
        weighed-raise l (height I S') (λ a. height I S a + one g a) ll (λ a b. omega (arith, totals a b)),
      )

  -- ---- the measure

  pub measure : Sheet → ℕ
  measure S = pot I N S * K + weighed (height I S)

  -- it goes by the totals alone
  pub measure-same : (S T : Sheet) → ((i : ℕ) → i < I.seats → total I S i ≡ total I T i) → measure S ≡ measure T
  unfolding measure weighed potential
  measure-same S T e =
      ap₂ (λ (x y : ℕ). x * K + y)
      (sum-eq I.seats _ _ (λ i l. ap (λ (x : ℕ). B I ^ (N - (I.base i + x) * u I i)) (e i l)))
      (sum-eq I.seats _ _ (λ i l. ap (λ (x : ℕ). I.position i * (I.base i + x)) (e i l)))

module _ (I : Instance) (proper : Proper I) (S S' : Sheet) (g l : ℕ) (w : Wanted I S (Precedes I) g l)
    (totals : Exchanged I S S' g l) (f : Feasible I S) (f' : Feasible I S')
  where
    -- a lower potential outweighs the other part
    lower : pot I (N I) S' < pot I (N I) S → measure I S' < measure I S
    unfolding measure
    lower h = omega (arith, mul-le-mul_right (K I) h, suc-mul (pot I (N I) S') (K I), below-K I S' f')

    improved : Prefers I g (height I S g) l w.rest → measure I S' < measure I S
    improved p =
        lower
        (exchange-lowers I proper S S' g l w.rest w.in-receiver w.in-donor w.apart totals w.last (N I)
        (below-N I S f l w.in-donor) p)

    pub measure-less : measure I S' < measure I S
    unfolding measure
    measure-less = go w.before
      where
        tie : height I S g * I.weight l ≡ w.rest * I.weight g → Tie I g l → measure I S' < measure I S
        tie e (inl c) = improved (inr (e, c))
        tie e (inr c) =
            omega (
              arith,
              weighed-exchange I S S' g l w.in-receiver w.in-donor totals,
              c.1,
              ap (λ (x : ℕ). x * K I)
                  (exchange-keeps I proper S S' g l w.rest w.in-receiver w.in-donor w.apart totals w.last (N I) e c.0),
            )

        go : Precedes I g (height I S g) l w.rest → measure I S' < measure I S
        go (inl b) = improved (inl b)
        go (inr t) = tie t.0 t.1
