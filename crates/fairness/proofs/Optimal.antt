-- A sheet that wastes nothing and has no improving path has the highest profile, and one that has no path to exchange by at all has the
-- only totals of its kind.
use mathlib.Core.Path.{◌≡◌}
use mathlib.Core.Logic.{◌⊎◌, inl, inr}
use Prim.Native.Nat.{ℕ, ◌<◌}
use native.Mathlib.Nat.{le_refl}
use native.Mathlib.Omega.{arith}
use Rattle.fairness.specs.Instance.{Instance, Proper, Sheet, Feasible, Wasteful, height, total}
use Rattle.fairness.specs.Leximin.{SameProfile, Better, Highest}
use Rattle.fairness.specs.Exchange.{Improvable, Settled}
use Rattle.fairness.proofs.Lex.{NoPath}
use Rattle.fairness.proofs.Potential.{potential-least}
use Rattle.fairness.proofs.Unique.{unique}
use Rattle.fairness.proofs.Levels.{Prefers, u, u-pos, units-prefers, units-precedes, ranking}
use Rattle.fairness.proofs.Wanted.{unimprovable, unexchangeable}
use Rattle.fairness.proofs.Profiles.{bound, B, big, Better-potential, same-higher-lower}

module _ (I : Instance) (proper : Proper I) where
  -- no feasible sheet is better than one that wastes nothing and has no path that improves
  optimal : (S T : Sheet) → (Wasteful I S → ⊥) → NoPath I (Prefers I) S → Feasible I T → Better I S T → ⊥
  optimal S T full none feasible h =
      omega (
        arith,
        Better-potential I proper (bound I T) S T (le_refl _) h,
        potential-least (B I) (big I) (bound I T) (u I) I S T (u-pos I proper) full feasible
            (λ g l k ms lg ll p e s. none g l k ms lg ll p e (units-prefers I proper g l lg ll (height I S g) k s)),
      )

  pub unimprovable-highest : (S : Sheet) → Feasible I S → (Wasteful I S → ⊥) → (Improvable I S → ⊥) → Highest I S
  unimprovable-highest S feasible full none =
      record { feasible = feasible; most = λ T f. go T f (same-higher-lower I T S) }
    where
      go : (T : Sheet) → Feasible I T → SameProfile I T S ⊎ (Better I T S ⊎ Better I S T) → SameProfile I T S ⊎ Better I T S
      go T f (inl s) = inl s
      go T f (inr (inl b)) = inr b
      go T f (inr (inr b)) = absurd (optimal S T full (unimprovable I S none) f b)

  ranked : (S : Sheet) → Settled I S → NoPath I (ranking I proper).Before S
  unfolding ranking
  ranked S s g l k ms lg ll p e t =
      unexchangeable I S proper s.fair s.ordered g l k ms lg ll p e
      (units-precedes I proper g l lg ll (height I S g) k t)

  -- two settled sheets give every seat the same
  pub settled-totals : (S T : Sheet) → Settled I S → Settled I T → (i : ℕ) → i < I.seats → total I S i ≡ total I T i
  settled-totals S T s t i l =
      let same : height I S i ≡ height I T i =
      unique I (ranking I proper) S T s.full s.feasible (ranked S s) t.full t.feasible (ranked T t) i l in
      omega arith
