-- The potential Σ_i B^(N − level i), where seat i at height x stands at level x · u i. A sheet with no improving path has the least
-- potential of all feasible sheets. A credit's gain is by how much it lowers the potential; gains are ordered as the credits are, and
-- the sum of all gains is cut into layers, each of which is a target of the threshold lemma.
use mathlib.Core.Path.{◌≡◌, refl, sym, ap, ◌∙◌}
use mathlib.Core.Logic.{inl, inr}
use Prim.Native.Nat.{ℕ, zero, suc, ◌+◌, ◌*◌, ◌-◌, ◌^◌, ◌≤◌, ◌<◌}
use native.Mathlib.Nat.{le_refl, pow-le-pow_right, pow-suc, pow-zero, suc-mul, zero-mul, sub-zero, sub-add-eq, mul_comm, mul-le-mul_right}
use native.Mathlib.Decide.{dec_lt, ℕ_discrete}
use native.Mathlib.Omega.{arith}
use Rattle.fairness.specs.Sums.{sum, keep}
use Rattle.fairness.specs.Instance.{Instance, Sheet, Feasible, Wasteful, height}
use Rattle.fairness.specs.Exchange.{one}
use Rattle.fairness.specs.Cuts.{Target, count}
use Rattle.fairness.proofs.Sums.{sum-zero, sum-suc, sum-le, sum-eq, sum-add, sum-swap}
use Rattle.fairness.proofs.Decide.{sum-at}
use Rattle.fairness.proofs.Lex.{Order, Lex, NoPath}
use Rattle.fairness.proofs.Threshold.{Respects, threshold, sum_below}

-- from a lower level, or from the same one by a larger unit
abbrev pub Sooner : (ℕ → ℕ) → Order
Sooner u i a j b = Lex (a * u i) (u j < u i) (b * u j)

module _ (B : ℕ) (big : 2 ≤ B) where
  pow_mono : (a b : ℕ) → a ≤ b → B ^ a ≤ B ^ b
  pow_mono a b l = pow-le-pow_right (omega arith) l

  pow-double : (a b : ℕ) → a < b → 2 * B ^ a ≤ B ^ b
  pow-double a b l = omega (arith, pow_mono (suc a) b l, pow-suc B a, mul_comm (B ^ a) B, mul-le-mul_right (B ^ a) big)

  -- ---- what a step of u levels gains, from N − a

  gain : ℕ → ℕ → ℕ
  gain a u = B ^ a - B ^ (a - u)

  gain-add : (a u : ℕ) → gain a u + B ^ (a - u) ≡ B ^ a
  unfolding gain
  gain-add a u = omega (arith, pow_mono (a - u) a (omega arith))

  gain-zero : (u : ℕ) → gain 0 u ≡ 0
  unfolding gain
  gain-zero u = omega (arith, pow_mono 0 (0 - u) (omega arith))

  gain-same : (a u v : ℕ) → u ≤ v → gain a u ≤ gain a v
  unfolding gain
  gain-same a u v l = omega (arith, pow_mono (a - v) (a - u) (omega arith))

  gain-less : (a u b v : ℕ) → a < b → 0 < v → gain a u < gain b v
  unfolding gain
  gain-less a u b v l p =
      omega (
        arith,
        pow-double a b l,
        pow-double (b - v) b (omega arith),
        pow_mono 0 (a - u) (omega arith),
        pow_mono (a - u) a (omega arith),
        pow-zero B,
      )

  gain-same-less : (a u v : ℕ) → u < v → u < a → gain a u < gain a v
  unfolding gain
  gain-same-less a u v l p =
      omega (
        arith,
        pow-double (a - v) (a - u) (omega arith),
        pow_mono (a - u) a (omega arith),
        pow_mono 0 (a - v) (omega arith),
        pow-zero B,
      )

  module _ (N : ℕ) (u : ℕ → ℕ) where
    -- ---- the gain of seat i's credit from height k

    pub φ : ℕ → ℕ → ℕ
    φ i k = gain (N - k * u i) (u i)

    φ-most : (i k : ℕ) → φ i k ≤ B ^ N
    unfolding φ gain
    φ-most i k = omega (arith, pow_mono (N - k * u i) N (omega arith))

    φ-add : (i k : ℕ) → φ i k + B ^ (N - suc k * u i) ≡ B ^ (N - k * u i)
    unfolding φ
    φ-add i k = rw (suc-mul, sub-add-eq) (gain-add (N - k * u i) (u i))

    -- a seat's gains sum up to what its level lowers the potential by
    φ-sum : (i x : ℕ) → sum x (φ i) + B ^ (N - x * u i) ≡ B ^ N
    φ-sum i zero = rw (sum-zero, zero-mul) (omega (arith, ap (λ (y : ℕ). B ^ y) (sub-zero N)))
    φ-sum i (suc x) = rw sum-suc (omega (arith, φ-sum i x, φ-add i x))

    -- the next credit gains no more
    φ-down : (i k : ℕ) → φ i (suc k) ≤ φ i k
    unfolding φ
    φ-down i k = rw (suc-mul, sub-add-eq) (step (N - k * u i) (u i) (dec_lt (N - k * u i - u i) (N - k * u i)))
      where
        step : (a v : ℕ) → Dec (a - v < a) → gain (a - v) v ≤ gain a v
        step a v (yes l) = omega (arith, gain-less (a - v) v a v l (omega arith))
        step a v (no l) = let z : a - v ≡ a = omega arith in rw z (le_refl _)

    -- what is not sooner gains no more
    φ-le : (i a j b : ℕ) → 0 < u j → (Sooner u i a j b → ⊥) → φ i a ≤ φ j b
    unfolding φ
    φ-le i a j b p h =
        go (a * u i) (b * u j) h (dec_lt (N - a * u i) (N - b * u j)) (dec_lt (a * u i) (b * u j)) (dec_lt (b * u j) (a * u i))
        (dec_lt (u j) (u i))
      where
        go : (x y : ℕ) → (Lex x (u j < u i) y → ⊥) → Dec (N - x < N - y) → Dec (x < y) → Dec (y < x) → Dec (u j < u i) →
            gain (N - x) (u i) ≤ gain (N - y) (u j)
        go x y q (yes l) c d e = omega (arith, gain-less (N - x) (u i) (N - y) (u j) l p)
        go x y q (no l) (yes c) d e = absurd (q (inl c))
        go x y q (no l) (no c) (yes d) e = let z : N - x ≡ 0 = omega arith in rw z (omega (arith, gain-zero (u i)))
        go x y q (no l) (no c) (no d) (yes e) = absurd (q (inr (omega arith, e)))
        go x y q (no l) (no c) (no d) (no e) = let z : x ≡ y = omega arith in rw z (gain-same (N - y) (u i) (u j) (omega arith))

    -- what is sooner gains more, as long as N is above the level that the later one leads to
    pub φ-lt : (i a j b : ℕ) → 0 < u i → suc b * u j < N → Sooner u i a j b → φ j b < φ i a
    unfolding φ
    φ-lt i a j b p h (inl l) = gain-less (N - b * u j) (u j) (N - a * u i) (u i) (omega (arith, suc-mul b (u j))) p
    φ-lt i a j b p h (inr t) = rw t.0 (gain-same-less (N - b * u j) (u j) (u i) t.1 (omega (arith, suc-mul b (u j))))

    -- a credit from below N gains
    pub φ-pos : (i a : ℕ) → 0 < u i → a * u i < N → 0 < φ i a
    unfolding φ
    φ-pos i a p h = omega (arith, gain-less 0 (u i) (N - a * u i) (u i) (omega arith) p)

    pub φ-eq : (i a j b : ℕ) → a * u i ≡ b * u j → u i ≡ u j → φ i a ≡ φ j b
    unfolding φ
    φ-eq i a j b e d = rw (e, d)

    -- ---- the potential of the heights h of n seats

    unfoldable pub potential : ℕ → (ℕ → ℕ) → ℕ
    potential n h = sum n (λ i. B ^ (N - h i * u i))

    -- one credit more for seat g
    pub potential-raise : (n g : ℕ) (h h' : ℕ → ℕ) → g < n → ((a : ℕ) → a < n → h' a ≡ h a + one g a) →
        potential n h' + φ g (h g) ≡ potential n h
    unfolding potential
    potential-raise n g h h' lg e =
        omega (
          arith,
          sum-eq n (λ i. B ^ (N - h' i * u i) + keep (ℕ_discrete i g) (φ g (h g))) (λ i. B ^ (N - h i * u i))
              (λ i l. at i (ℕ_discrete i g) (e i l)),
          sum-add n (λ i. B ^ (N - h' i * u i)) (λ i. keep (ℕ_discrete i g) (φ g (h g))),
          sum-at n g (φ g (h g)) lg,
        )
      where
        at : (i : ℕ) (d : Dec (i ≡ g)) → h' i ≡ h i + keep d 1 → B ^ (N - h' i * u i) + keep d (φ g (h g)) ≡ B ^ (N - h i * u i)
        at i (yes p) b = let z : h' i ≡ suc (h i) = omega arith in rw (z, ← p) (omega (arith, φ-add i (h i)))
        at i (no p) b = let z : h' i ≡ h i = omega arith in rw z (omega arith)

    -- one credit more for seat g, and one less for seat l
    pub potential-exchange : (n g l : ℕ) (h h' : ℕ → ℕ) → g < n → l < n → ((a : ℕ) → a < n → h' a + one l a ≡ h a + one g a) →
        potential n h' + φ g (h g) ≡ potential n h + φ l (h' l)
    potential-exchange n g l h h' lg ll e =
        omega (
          arith,
          potential-raise n g h (λ a. h a + one g a) lg (λ a b. refl),
          potential-raise n l h' (λ a. h a + one g a) ll (λ a b. sym (e a b)),
        )

    -- ---- layers: the credits that gain more than v

    layer : ℕ → Target
    layer v = record { In = λ i k. v < φ i k; in? = λ i k. dec_lt v (φ i k); down = λ i k l. omega (arith, φ-down i k) }

    -- a seat's gains, by layers
    by-layers : (i x : ℕ) → sum x (φ i) ≡ sum (B ^ N) (λ v. count (layer v) i x)
    unfolding layer count
    by-layers i x =
        sum-eq x (φ i) (λ k. sum (B ^ N) (λ v. keep (dec_lt v (φ i k)) 1))
        (λ k l. omega (arith, sum_below (φ i k) (B ^ N), φ-most i k))
        ∙ sum-swap x (B ^ N) (λ k v. keep (dec_lt v (φ i k)) 1)

    gains : ℕ → (ℕ → ℕ) → ℕ
    gains n h = sum n (λ i. sum (h i) (φ i))

    gains-potential : (n : ℕ) (h : ℕ → ℕ) → gains n h + potential n h ≡ sum n (λ i. B ^ N)
    unfolding gains potential
    gains-potential n h =
        sym (sum-add n (λ i. sum (h i) (φ i)) (λ i. B ^ (N - h i * u i))) ∙ sum-eq n _ _ (λ i l. φ-sum i (h i))

    gains-layers : (n : ℕ) (h : ℕ → ℕ) → gains n h ≡ sum (B ^ N) (λ v. sum n (λ i. count (layer v) i (h i)))
    unfolding gains
    gains-layers n h =
        sum-eq n _ _ (λ i l. by-layers i (h i)) ∙ sum-swap n (B ^ N) (λ i v. count (layer v) i (h i))

    module _ (I : Instance) (S T : Sheet) (units : (i : ℕ) → i < I.seats → 0 < u i)
        (full : Wasteful I S → ⊥) (feasible : Feasible I T) (none : NoPath I (Sooner u) S)
      where
        respects : (v : ℕ) → Respects I S (layer v)
        unfolding layer
        respects v g l k ms lg ll p w e = omega (arith, φ-le g (height I S g) l k (units l ll) (none g l k ms lg ll p e))

        pub potential-least : potential I.seats (height I S) ≤ potential I.seats (height I T)
        potential-least =
            omega (
              arith,
              gains-potential I.seats (height I S),
              gains-potential I.seats (height I T),
              gains-layers I.seats (height I S),
              gains-layers I.seats (height I T),
              sum-le (B ^ N) _ _ (λ v l. threshold I S T full feasible (layer v) (respects v)),
            )
