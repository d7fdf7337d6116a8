-- Profiles and potentials: of two sheets, the one with the higher profile has the lower potential, and the other way round.
use mathlib.Core.Path.{◌≡◌, sym, ap, ◌∙◌, subst₂}
use mathlib.Core.Logic.{◌⊎◌, inl, inr, ◌↔◌}
use mathlib.Core.List.{List, map}
use Prim.Native.Nat.{ℕ, ◌+◌, ◌-◌, ◌*◌, ◌^◌, ◌≤◌, ◌<◌}
use native.Mathlib.Decide.{dec_le}
use native.Mathlib.Omega.{arith}
use lib.ListN.{length, length-map}
use Rattle.fairness.specs.Instance.{Instance, Proper, Sheet, height}
use Rattle.fairness.specs.Leximin.{Equal, Higher, sort, Level, NoHigher, no_higher?, levels, profile, SameProfile, Better}
use Rattle.fairness.specs.Exchange.{All}
use Rattle.fairness.proofs.Lists.{list_sum, map-sum, All-sum, table-sum, table-All, table-length}
use Rattle.fairness.proofs.Sorting.{Equal-sym, Equal-not-Higher, Higher-asym, Equal-trans, trichotomy}
use Rattle.fairness.proofs.Sorting.{sort-All, sort-sum, sort-length, sort-Sorted}
use Rattle.fairness.proofs.Sorting.{weigh, weigh-Equal, weigh-Higher, sort-map, Higher-map, Higher-unmap}
use Rattle.fairness.proofs.Potential.{potential}
use Rattle.fairness.proofs.Units.{Divides}
use Rattle.fairness.proofs.Levels.{L, u, units, divides, same-order}

-- ---- the three cases of the order

no_higher-total : (p q : Level) → NoHigher p q ⊎ NoHigher q p
no_higher-total p q = go (dec_le (p.0 * q.1) (q.0 * p.1))
  where
    go : Dec (NoHigher p q) → NoHigher p q ⊎ NoHigher q p
    go (yes l) = inl l
    go (no l) = inr (omega arith)

module _ (I : Instance) where
  profile-length : (S : Sheet) → length (profile I S) ≡ I.seats
  unfolding profile levels
  profile-length S = sort-length NoHigher no_higher? _ ∙ table-length I.seats _

  pub same-higher-lower : (S T : Sheet) → SameProfile I S T ⊎ (Better I S T ⊎ Better I T S)
  same-higher-lower S T = trichotomy NoHigher no_higher? (profile I S) (profile I T) (profile-length S ∙ sym (profile-length T))

  pub same-symmetric : (S T : Sheet) → SameProfile I S T → SameProfile I T S
  same-symmetric S T = Equal-sym NoHigher (profile I S) (profile I T)

  pub same-not-better : (S T : Sheet) → SameProfile I S T → Better I S T → ⊥
  same-not-better S T = Equal-not-Higher NoHigher (profile I S) (profile I T)

  pub better-not-worse : (S T : Sheet) → Better I S T → Better I T S → ⊥
  better-not-worse S T = Higher-asym NoHigher no_higher-total (profile I S) (profile I T)

-- ---- sorted levels in units

sorted : Instance → Sheet → List ℕ
sorted I S = sort ◌≤◌ dec_le (map (units I) (levels I S))

-- a bound on all levels
pub bound : Instance → Sheet → ℕ
bound I S = list_sum (λ x. x) (sorted I S)

pub B : Instance → ℕ
B I = I.seats + 2

pub big : (I : Instance) → 2 ≤ B I
unfolding B
big I = omega arith

-- the potential of a sheet, over N
abbrev pub pot : Instance → ℕ → Sheet → ℕ
pot I N S = potential (B I) (big I) N (u I) I.seats (height I S)

module _ (I : Instance) (proper : Proper I) where
  abbrev Good : Level → Type 0
  Good p = Divides (L I) p.1

  levels-good : (S : Sheet) → All Good (levels I S)
  unfolding levels
  levels-good S = table-All Good I.seats _ (λ i l. divides I proper i l)

  profile-good : (S : Sheet) → All Good (profile I S)
  unfolding profile
  profile-good S = sort-All NoHigher no_higher? Good (levels I S) (levels-good S)

  pub same-transitive : (S T U : Sheet) → SameProfile I S T → SameProfile I T U → SameProfile I S U
  same-transitive S T U =
      Equal-trans NoHigher no_higher? Good (units I) (same-order I proper) (profile I S) (profile I T) (profile I U)
      (profile-good S) (profile-good T) (profile-good U)

  sorted-profile : (S : Sheet) → map (units I) (profile I S) ≡ sorted I S
  unfolding profile sorted
  sorted-profile S = sort-map NoHigher no_higher? Good (units I) (same-order I proper) (levels I S) (levels-good S)

  sorted-length : (S : Sheet) → length (sorted I S) ≡ I.seats
  sorted-length S =
      ap length (sym (sorted-profile S)) ∙ length-map (profile I S) (units I) ∙ profile-length I S

  Better-units : (S T : Sheet) → Better I S T ↔ Higher ◌≤◌ (sorted I S) (sorted I T)
  Better-units S T = (
    λ h. subst₂ (λ (xs ys : List ℕ). Higher ◌≤◌ xs ys) (sorted-profile S) (sorted-profile T)
        (Higher-map NoHigher no_higher? Good (units I) (same-order I proper) (profile I S) (profile I T)
        (profile-good S) (profile-good T) h),
    λ h. Higher-unmap NoHigher no_higher? Good (units I) (same-order I proper) (profile I S) (profile I T)
        (profile-good S) (profile-good T)
        (subst₂ (λ (xs ys : List ℕ). Higher ◌≤◌ xs ys) (sym (sorted-profile S)) (sym (sorted-profile T)) h),
  )

  -- ---- potentials

  weigh-sorted : (N : ℕ) (S : Sheet) → weigh (B I) N (sorted I S) ≡ pot I N S
  unfolding weigh sorted levels potential units u
  weigh-sorted N S =
      sort-sum ◌≤◌ dec_le (λ x. B I ^ (N - x)) (map (units I) (levels I S))
      ∙ map-sum (units I) (λ x. B I ^ (N - x)) (levels I S)
      ∙ table-sum I.seats (λ i. (height I S i, I.weight i)) (λ p. B I ^ (N - units I p))

  -- the better sheet has the lower potential
  pub Better-potential : (N : ℕ) (S T : Sheet) → bound I T ≤ N → Better I S T → pot I N T < pot I N S
  unfolding sorted bound B
  Better-potential N S T b h =
      omega (
        arith,
        weigh-sorted N S,
        weigh-sorted N T,
        weigh-Higher (B I) N (omega arith) (sorted I S) (sorted I T) ((Better-units S T).0 h) (sort-Sorted _)
            (All-sum N (sorted I T) b) (omega (arith, sorted-length T)),
      )

  -- and the sheet with the lower potential is the better one
  pub potential-Better : (N : ℕ) (S T : Sheet) → bound I S ≤ N → pot I N T < pot I N S → Better I S T
  potential-Better N S T b h = (Better-units S T).1 (go (trichotomy ◌≤◌ dec_le (sorted I S) (sorted I T) lengths))
    where
      lengths : length (sorted I S) ≡ length (sorted I T)
      lengths = sorted-length S ∙ sym (sorted-length T)

      go : Equal ◌≤◌ (sorted I S) (sorted I T) ⊎ (Higher ◌≤◌ (sorted I S) (sorted I T) ⊎ Higher ◌≤◌ (sorted I T) (sorted I S)) →
          Higher ◌≤◌ (sorted I S) (sorted I T)
      go (inl p) =
          absurd (omega (arith, weigh-Equal (B I) N (sorted I S) (sorted I T) p, weigh-sorted N S, weigh-sorted N T))
      go (inr (inl p)) = p
      go (inr (inr p)) = absurd (omega (arith, Better-potential N T S b ((Better-units T S).1 p)))
