-- The threshold lemma. Where no path leads from a seat whose next credit is in a target to a seat whose last credit is not, no feasible
-- sheet holds more of the target's credits. The sum over the seats that such paths reach is taken under a double negation, so the reached
-- set need not be computed.
use mathlib.Core.Path.{◌≡◌, refl, sym, ◌∙◌}
use mathlib.Core.List.{List, []}
use Prim.Native.Nat.{ℕ, zero, suc, min, ◌+◌, ◌-◌, ◌≤◌, ◌<◌, zero-le}
use native.Mathlib.Nat.{le_trans, le_of_eq, add-zero, add-suc}
use native.Mathlib.Decide.{dec_lt}
use native.Mathlib.Omega.{arith}
use Rattle.fairness.specs.Sums.{sum, keep}
use Rattle.fairness.specs.Instance.{Instance, Sheet, Feasible, Wasteful, height}
use Rattle.fairness.specs.Exchange.{Move, Path}
use Rattle.fairness.specs.Cuts.{Closed, Target, count}
use Rattle.fairness.proofs.Sums.{sum-add-le, sum_mono, sum-zero, sum-suc, sum-le, sum-eq}
use Rattle.fairness.proofs.Decide.{drop, keep-yes, keep-no, keep-most, nn-decided, le-stable}
use Rattle.fairness.proofs.Walks.{no-path, path-edge, edge_of}
use Rattle.fairness.proofs.Cut.{cut}

-- no path takes from within the target for what is outside
abbrev pub Respects : Instance → Sheet → Target → Type 0
Respects I S G =
    (g l k : ℕ) (ms : List Move) → g < I.seats → l < I.seats → Path I S g l ms → G.In g (height I S g) → height I S l ≡ suc k → G.In l k

-- ---- counting in a target

module _ (G : Target) (i : ℕ) where
  In-le : (k d : ℕ) → G.In i (k + d) → G.In i k
  In-le k zero p = rw add-zero at p
  In-le k (suc d) p = In-le k d (G.down i (k + d) (rw add-suc at p))

  count_most : (x : ℕ) → count G i x ≤ x
  unfolding count
  count_most zero = le_of_eq (sum-zero _)
  count_most (suc x) = rw sum-suc (omega (arith, count_most x, keep-most (G.in? i x) 1))

  -- all of them are, where the last is
  count-all : (x : ℕ) → ((k : ℕ) → x ≡ suc k → G.In i k) → count G i x ≡ x
  unfolding count
  count-all zero h = sum-zero _
  count-all (suc x) h =
      sum-suc x _ ∙ omega (arith, count-all x (λ k e. G.down i k (rw e at (h x refl))), keep-yes (G.in? i x) 1 (h x refl))

  -- from x on none is, where x is not
  count-end : (x : ℕ) → (G.In i x → ⊥) → (y : ℕ) → count G i y ≤ count G i x
  unfolding count
  count-end x h zero = sum_mono 0 x _ zero-le
  count-end x h (suc y) = rw sum-suc (go (count-end x h y) (dec_lt y x))
    where
      go : count G i y ≤ count G i x → Dec (y < x) →
          sum y (λ k. keep (G.in? i k) 1) + keep (G.in? i y) 1 ≤ sum x (λ k. keep (G.in? i k) 1)
      go ih (yes b) = le_trans (le_of_eq (sym (sum-suc y _))) (sum_mono (suc y) x _ b)
      go ih (no b) =
          let d : G.In i y → ⊥ = (λ p. h (In-le x (y - x) (rw (let e : y ≡ x + (y - x) = omega arith in e) at p))) in
          omega (arith, ih, keep-no (G.in? i y) 1 d)

-- ---- the lemma

module _ (I : Instance) (S T : Sheet) (full : Wasteful I S → ⊥) (feasible : Feasible I T) (G : Target) (respects : Respects I S G) where
  -- a path reaches l from a seat whose next credit is in the target
  record Reached (l : ℕ) : Type 0 where
    seat : l < I.seats
    from : ℕ
    from-seat : from < I.seats
    wants : G.In from (height I S from)
    moves : List Move
    path : Path I S from l moves

  -- a seat's count, by whether it is reached
  T-part : (i : ℕ) (d : Dec (Reached i)) → i < I.seats →
      count G i (height I T i) ≤ keep d (height I T i) + drop d (count G i (height I S i))
  T-part i (yes r) l = omega (arith, count_most G i (height I T i))
  T-part i (no q) l = omega (arith, count-end G i (height I S i) outside (height I T i))
    where
      outside : G.In i (height I S i) → ⊥
      outside p = q (record { seat = l; from = i; from-seat = l; wants = p; moves = []; path = no-path I S i i refl })

  S-part : (i : ℕ) (d : Dec (Reached i)) → i < I.seats →
      keep d (height I S i) + drop d (count G i (height I S i)) ≤ count G i (height I S i)
  S-part i (yes r) l = omega (arith, count-all G i (height I S i) last)
    where
      last : (k : ℕ) → height I S i ≡ suc k → G.In i k
      last k e = respects r.from i k r.moves r.from-seat l r.path r.wants e
  S-part i (no q) l = omega arith

  closed : Closed I S Reached
  closed m p r =
      let q = path-edge I S r.from m.taker m.giver r.moves r.path (edge_of I S m p) in
      record { seat = p.in_giver; from = r.from; from-seat = r.from-seat; wants = r.wants; moves = q.0; path = q.1 }

  abbrev held_in : Sheet → ℕ
  held_in X = sum I.seats (λ i. count G i (height I X i))

  pub threshold : held_in T ≤ held_in S
  threshold = le-stable _ _ (λ k. nn-decided Reached I.seats (λ i r. r.seat) (λ d. k (with-decisions d)))
    where
      with-decisions : ((i : ℕ) → Dec (Reached i)) → held_in T ≤ held_in S
      with-decisions d =
          le_trans (sum-le I.seats _ _ (λ i l. T-part i (d i) l))
          (le_trans
          (sum-add-le I.seats (λ i. keep (d i) (height I T i)) (λ i. keep (d i) (height I S i))
          (λ i. drop (d i) (count G i (height I S i)))
          (cut I Reached d S full closed T feasible))
          (sum-le I.seats _ _ (λ i l. S-part i (d i) l)))

-- ---- the same with a cutoff for each seat

-- how many numbers below x are below c
pub sum_below : (c x : ℕ) → sum x (λ k. keep (dec_lt k c) 1) ≡ min x c
sum_below c zero = sum-zero _ ∙ omega arith
sum_below c (suc x) = sum-suc x _ ∙ go (sum_below c x) (dec_lt x c)
  where
    go : sum x (λ k. keep (dec_lt k c) 1) ≡ min x c → (d : Dec (x < c)) → sum x (λ k. keep (dec_lt k c) 1) + keep d 1 ≡ min (suc x) c
    go ih (yes l) = omega arith
    go ih (no l) = omega arith

module _ (c : ℕ → ℕ) where
  below : Target
  below = record { In = λ i k. k < c i; in? = λ i k. dec_lt k (c i); down = λ i k l. omega arith }

  count-below : (i x : ℕ) → count below i x ≡ min x (c i)
  unfolding count below
  count-below i x = sum_below (c i) x

pub threshold-cutoffs : (I : Instance) (S T : Sheet) → (Wasteful I S → ⊥) → Feasible I T → (c : ℕ → ℕ) →
    ((g l : ℕ) (ms : List Move) → g < I.seats → l < I.seats → Path I S g l ms → height I S g < c g → c l < height I S l → ⊥) →
    sum I.seats (λ i. min (height I T i) (c i)) ≤ sum I.seats (λ i. min (height I S i) (c i))
unfolding below
threshold-cutoffs I S T full feasible c none =
    le_trans (le_of_eq (sum-eq I.seats _ _ (λ i l. sym (count-below c i (height I T i)))))
    (le_trans (threshold I S T full feasible (below c) respects)
    (le_of_eq (sum-eq I.seats _ _ (λ i l. count-below c i (height I S i)))))
  where
    respects : Respects I S (below c)
    respects g l k ms lg ll p w e = go (dec_lt k (c l))
      where
        go : Dec (k < c l) → k < c l
        go (yes b) = b
        go (no b) = absurd (none g l ms lg ll p w (omega arith))
