-- Uniqueness of heights. A ranking is a strict total order of all the seats' credits. Where neither of two feasible sheets that waste
-- nothing has a path that takes a later credit for an earlier one, every seat stands at the same height in both: the threshold lemma, both
-- ways, for the credits before a given one, and for those with the given one.
use mathlib.Core.Path.{◌≡◌, refl, sym, ap, ◌∙◌, subst, subst₂}
use mathlib.Core.Logic.{◌⊎◌, inl, inr, ⊎_elim}
use Prim.Native.Nat.{ℕ, suc, ◌+◌, ◌≤◌, ◌<◌}
use native.Mathlib.Nat.{le_antisymm}
use native.Mathlib.Decide.{dec_lt, dec_le, ℕ_discrete}
use native.Mathlib.Omega.{arith}
use Rattle.fairness.specs.Sums.{sum, keep}
use Rattle.fairness.specs.Instance.{Instance, Sheet, Feasible, Wasteful, height}
use Rattle.fairness.specs.Cuts.{Target, count}
use Rattle.fairness.proofs.Sums.{sum-eq, sum-add, sum-none, sum_one}
use Rattle.fairness.proofs.Decide.{keep-yes, keep-no, both?, either?}
use Rattle.fairness.proofs.Lex.{Order, NoPath}
use Rattle.fairness.proofs.Threshold.{Respects, threshold}

-- a strict total order of the credits of n seats
pub record Ranking (n : ℕ) : Type 1 where
  pub Before : Order
  pub before? : (i a j b : ℕ) → Dec (Before i a j b)
  pub irrefl : (i a : ℕ) → Before i a i a → ⊥
  pub cotrans : (i a j b k c : ℕ) → Before i a k c → (Before j b k c → ⊥) → Before i a j b
  pub down : (i a j b : ℕ) → Before i (suc a) j b → Before i a j b
  pub step : (i a : ℕ) → i < n → Before i a i (suc a)
  pub total : (i a j b : ℕ) → i < n → j < n → (Before i a j b → ⊥) → (Before j b i a → ⊥) → (i ≡ j) × (a ≡ b)

module _ {n : ℕ} (R : Ranking n) (i₀ k₀ : ℕ) (seat : i₀ < n) where
  -- the credits before (i₀, k₀)
  before : Target
  before = record { In = λ i k. R.Before i k i₀ k₀; in? = λ i k. R.before? i k i₀ k₀; down = λ i k. R.down i k i₀ k₀ }

  -- (i, k) is (i₀, k₀)
  abbrev Is : ℕ → ℕ → Type 0
  Is i k = (i ≡ i₀) × (k ≡ k₀)

  is? : (i k : ℕ) → Dec (Is i k)
  is? i k = both? (ℕ_discrete i i₀) (ℕ_discrete k k₀)

  -- the credits before (i₀, k₀), and that one
  upto : Target
  upto =
      record {
        In = λ i k. R.Before i k i₀ k₀ ⊎ Is i k;
        in? = λ i k. either? (R.before? i k i₀ k₀) (is? i k);
        down = λ i k p. ⊎_elim (λ b. inl (R.down i k i₀ k₀ b)) (λ e. inl (at i k e)) p;
      }
    where
      at : (i k : ℕ) → Is i (suc k) → R.Before i k i₀ k₀
      at i k e =
          let next : R.Before i k i (suc k) = R.step i k (subst (λ (x : ℕ). x < n) (sym e.0) seat) in
          subst₂ (λ (x y : ℕ). R.Before i k x y) e.0 e.1 next

  -- the second target has one credit more
  one_more : (i k : ℕ) → keep (upto.in? i k) 1 ≡ keep (before.in? i k) 1 + keep (is? i k) 1
  unfolding upto before
  one_more i k = go (R.before? i k i₀ k₀) (is? i k)
    where
      go : (d : Dec (R.Before i k i₀ k₀)) (e : Dec (Is i k)) → keep (either? d e) 1 ≡ keep d 1 + keep e 1
      go (yes p) (yes q) = absurd (R.irrefl i₀ k₀ (subst₂ (λ (x y : ℕ). R.Before x y i₀ k₀) q.0 q.1 p))
      go (yes p) (no q) = refl
      go (no p) (yes q) = refl
      go (no p) (no q) = refl

  -- 1 where seat i₀ has the credit
  abbrev holds : (ℕ → ℕ) → ℕ
  holds h = keep (dec_lt k₀ (h i₀)) 1

  held : (h : ℕ → ℕ) → sum n (λ i. sum (h i) (λ k. keep (is? i k) 1)) ≡ holds h
  unfolding is?
  held h = sum_one n (λ i. sum (h i) (λ k. keep (is? i k) 1)) i₀ seat other ∙ at (dec_lt k₀ (h i₀))
    where
      other : (i : ℕ) → i < n → (i ≡ i₀ → ⊥) → sum (h i) (λ k. keep (is? i k) 1) ≡ 0
      other i l q = sum-none (h i) _ (λ k m. keep-no (is? i k) 1 (λ e. q e.0))

      at : (d : Dec (k₀ < h i₀)) → sum (h i₀) (λ k. keep (is? i₀ k) 1) ≡ keep d 1
      at (yes l) =
          sum_one (h i₀) (λ k. keep (is? i₀ k) 1) k₀ l (λ k m q. keep-no (is? i₀ k) 1 (λ e. q e.1))
          ∙ keep-yes (is? i₀ k₀) 1 (refl, refl)
      at (no l) = sum-none (h i₀) _ (λ k m. keep-no (is? i₀ k) 1 (λ e. l (subst (λ (x : ℕ). x < h i₀) e.1 m)))

  counts : (h : ℕ → ℕ) → sum n (λ i. count upto i (h i)) ≡ sum n (λ i. count before i (h i)) + holds h
  unfolding count
  counts h =
      sum-eq n _ _
      (λ i l. sum-eq (h i) _ _ (λ k m. one_more i k) ∙ sum-add (h i) (λ k. keep (before.in? i k) 1) (λ k. keep (is? i k) 1))
      ∙ sum-add n (λ i. sum (h i) (λ k. keep (before.in? i k) 1)) (λ i. sum (h i) (λ k. keep (is? i k) 1))
      ∙ ap (λ (x : ℕ). sum n (λ i. count before i (h i)) + x) (held h)

module _ (I : Instance) (R : Ranking I.seats) (i₀ k₀ : ℕ) (seat : i₀ < I.seats)
    (S : Sheet) (none : NoPath I R.Before S)
  where
    respects-before : Respects I S (before R i₀ k₀ seat)
    unfolding before
    respects-before g l k ms lg ll r w e = go (R.before? l k i₀ k₀)
      where
        go : Dec (R.Before l k i₀ k₀) → R.Before l k i₀ k₀
        go (yes p) = p
        go (no p) = absurd (none g l k ms lg ll r e (R.cotrans g (height I S g) l k i₀ k₀ w p))

    respects-upto : Respects I S (upto R i₀ k₀ seat)
    unfolding upto
    respects-upto g l k ms lg ll r w e = go (either? (R.before? l k i₀ k₀) (is? R i₀ k₀ seat l k)) w
      where
        go : Dec (R.Before l k i₀ k₀ ⊎ Is R i₀ k₀ seat l k) →
            R.Before g (height I S g) i₀ k₀ ⊎ Is R i₀ k₀ seat g (height I S g) → R.Before l k i₀ k₀ ⊎ Is R i₀ k₀ seat l k
        go (yes p) v = p
        go (no p) (inl b) =
            absurd (none g l k ms lg ll r e (R.cotrans g (height I S g) l k i₀ k₀ b (λ c. p (inl c))))
        go (no p) (inr q) = absurd (at (R.before? g (height I S g) l k))
          where
            later : R.Before l k g (height I S g) → ⊥
            later c = p (inl (subst₂ (λ (x y : ℕ). R.Before l k x y) q.0 q.1 c))

            at : Dec (R.Before g (height I S g) l k) → ⊥
            at (yes b) = none g l k ms lg ll r e b
            at (no b) =
                let same : (g ≡ l) × (height I S g ≡ k) = R.total g (height I S g) l k lg ll b later in
                p (inr (sym same.0 ∙ q.0, sym same.1 ∙ q.1))

-- a number that has below it what another has
le-of-held : (a b : ℕ) → ((k : ℕ) → keep (dec_lt k a) 1 ≡ keep (dec_lt k b) 1) → a ≤ b
le-of-held a b h = go (dec_le a b)
  where
    go : Dec (a ≤ b) → a ≤ b
    go (yes l) = l
    go (no l) = omega (arith, h b, keep-yes (dec_lt b a) 1 (omega arith), keep-no (dec_lt b b) 1 (λ c. omega arith))

module _ (I : Instance) (R : Ranking I.seats) (S T : Sheet)
    (full-S : Wasteful I S → ⊥) (feasible-S : Feasible I S) (none-S : NoPath I R.Before S)
    (full-T : Wasteful I T → ⊥) (feasible-T : Feasible I T) (none-T : NoPath I R.Before T)
  where
    same-held : (i k : ℕ) → i < I.seats → keep (dec_lt k (height I S i)) 1 ≡ keep (dec_lt k (height I T i)) 1
    same-held i k l =
        omega (
          arith,
          counts R i k l (height I S),
          counts R i k l (height I T),
          threshold I S T full-S feasible-T (before R i k l) (respects-before I R i k l S none-S),
          threshold I T S full-T feasible-S (before R i k l) (respects-before I R i k l T none-T),
          threshold I S T full-S feasible-T (upto R i k l) (respects-upto I R i k l S none-S),
          threshold I T S full-T feasible-S (upto R i k l) (respects-upto I R i k l T none-T),
        )

    pub unique : (i : ℕ) → i < I.seats → height I S i ≡ height I T i
    unique i l = le_antisymm (le-of-held _ _ (λ k. same-held i k l)) (le-of-held _ _ (λ k. sym (same-held i k l)))
