-- Every instance has a settled sheet: each window's supply is handed out in the order of the seats, and then wanted exchanges are played
-- until there are none.
use mathlib.Core.Path.{◌≡◌, ◌∙◌}
use mathlib.Core.Bool.{Bool, true, Bool-discrete}
use mathlib.Core.Logic.{◌⊎◌, inl, inr}
use Prim.Native.Nat.{ℕ, zero, suc, min, ◌-◌, ◌≤◌, ◌<◌}
use native.Mathlib.Nat.{le_refl}
use native.Mathlib.Omega.{arith}
use lib.ListN.{length}
use Rattle.fairness.specs.Sums.{sum}
use Rattle.fairness.specs.Instance.{Instance, Proper, Sheet, Feasible, Wasteful}
use Rattle.fairness.specs.Exchange.{play_all, Exchange, improves_at, ties_at, Improvable, Tied, Settled}
use Rattle.fairness.specs.Layers.{Within}
use Rattle.fairness.proofs.Sums.{sum-zero, sum-suc, sum_mono}
use Rattle.fairness.proofs.Decide.{both?, below?}
use Rattle.fairness.proofs.Walks.{within?, within-path, within_more, path-within, path-length}
use Rattle.fairness.proofs.Plays.{path-plays, plays-feasible, plays-wasteful, plays-total}
use Rattle.fairness.proofs.Wanted.{not-self, path-ends, exchange-wanted, improves-apart, ties-apart}
use Rattle.fairness.proofs.Measure.{measure, measure-less}

-- ---- whether there is a wanted exchange is decidable

module _ (I : Instance) (S : Sheet) (test : ℕ → ℕ → Bool) (apart : (g : ℕ) → test g g ≡ true → ⊥) where
  abbrev Found : ℕ → ℕ → Type 0
  Found g l = Within I S I.seats g l × (test g l ≡ true)

  found : Exchange I S test → (g : ℕ) × (g < I.seats) × ((l : ℕ) × (l < I.seats) × Found g l)
  found e =
      let other = not-self I S test apart e.receiver e.donor e.wanted in
      let ends = path-ends I S e.receiver e.donor e.moves e.path other in (
        e.receiver,
        ends.in-receiver,
        (
          e.donor,
          ends.in-donor,
          (
            within_more I S (length e.moves) I.seats e.receiver e.donor
                (omega (arith, path-length I S e.receiver e.donor e.moves ends.in-receiver e.path))
                (path-within I S e.receiver e.donor e.moves e.path),
            e.wanted,
          ),
        ),
      )

  pub exchange? : Dec (Exchange I S test)
  exchange? =
      go
      (below? (λ g. (l : ℕ) × (l < I.seats) × Found g l)
      (λ g. below? (λ l. Found g l) (λ l. both? (within? I S I.seats g l) (Bool-discrete (test g l) true)) I.seats)
      I.seats)
    where
      go : Dec ((g : ℕ) × (g < I.seats) × ((l : ℕ) × (l < I.seats) × Found g l)) → Dec (Exchange I S test)
      go (yes x) =
          let p = within-path I S I.seats x.0 x.2.0 x.2.2.0 in
          yes (record { receiver = x.0; donor = x.2.0; moves = p.0; path = p.1; wanted = x.2.2.1 })
      go (no q) = no (λ e. q (found e))

-- ---- from any feasible sheet that wastes nothing

-- a settled sheet of no greater measure
pub record SettledFrom (I : Instance) (S : Sheet) : Type 0 where
  pub sheet : Sheet
  pub settled : Settled I sheet
  pub no_greater : measure I sheet ≤ measure I S

module _ (I : Instance) (proper : Proper I) where
  abbrev Settles : ℕ → Type 0
  Settles n = (S : Sheet) → measure I S < n → Feasible I S → (Wasteful I S → ⊥) → SettledFrom I S

  -- play an exchange that one of the tests wants, and go on
  play-on : (n : ℕ) → Settles n → (S : Sheet) → measure I S < suc n → Feasible I S → (Wasteful I S → ⊥) →
      (test : ℕ → ℕ → Bool) → ((g l : ℕ) → test g l ≡ true → (improves_at I S g l ≡ true) ⊎ (ties_at I S g l ≡ true)) →
      Exchange I S test → SettledFrom I S
  play-on n ih S b f full test wants e =
      let plays = path-plays I S e.receiver e.donor e.moves e.path in
      let f' = plays-feasible I S e.moves plays f in
      let w = exchange-wanted I S e.receiver e.donor e.moves e.path (wants e.receiver e.donor e.wanted) in
      let totals = plays-total I S e.receiver e.donor e.moves plays e.path.linked in
      let less = measure-less I proper S (play_all S e.moves) e.receiver e.donor w (λ a l. totals a) f f' in
      let t = ih (play_all S e.moves) (omega arith) f' (λ x. full (plays-wasteful I S e.moves plays x)) in
      record { sheet = t.sheet; settled = t.settled; no_greater = omega (arith, t.no_greater) }

  settle : (n : ℕ) → Settles n
  settle zero S b f full = absurd (omega arith)
  settle (suc n) S b f full =
      go (settle n) (exchange? I S (improves_at I S) (improves-apart I S)) (exchange? I S (ties_at I S) (ties-apart I S))
    where
      go : Settles n → Dec (Improvable I S) → Dec (Tied I S) → SettledFrom I S
      go ih (yes e) d = play-on n ih S b f full (improves_at I S) (λ g l t. inl t) e
      go ih (no p) (yes e) = play-on n ih S b f full (ties_at I S) (λ g l t. inr t) e
      go ih (no p) (no q) =
          record {
            sheet = S;
            settled = record { feasible = f; full = full; fair = p; ordered = q };
            no_greater = le_refl (measure I S);
          }

  pub settled-from : (S : Sheet) → Feasible I S → (Wasteful I S → ⊥) → SettledFrom I S
  settled-from S = settle (suc (measure I S)) S (le_refl _)

-- ---- a first sheet

module _ (I : Instance) where
  -- what the seats below i take in window j
  abbrev taken : ℕ → ℕ → ℕ
  taken i j = min (I.supply j) (sum i (λ a. I.cap a j))

  first : Sheet
  first i j = taken (suc i) j - taken i j

  first-sum : (n j : ℕ) → sum n (λ i. first i j) ≡ taken n j
  unfolding first
  first-sum zero j = sum-zero _ ∙ omega (arith, sum-zero (λ a. I.cap a j))
  first-sum (suc n) j = sum-suc n _ ∙ omega (arith, first-sum n j, sum-suc n (λ a. I.cap a j))

  first-feasible : Feasible I first
  unfolding first
  first-feasible =
      record {
        within = λ i j li lj. omega (arith, sum-suc i (λ a. I.cap a j));
        fits = λ j lj. omega (arith, first-sum I.seats j);
      }

  first-full : Wasteful I first → ⊥
  unfolding first
  first-full w =
      omega (
        arith,
        w.left,
        w.room,
        first-sum I.seats w.window,
        sum-suc w.seat (λ a. I.cap a w.window),
        sum_mono (suc w.seat) I.seats (λ a. I.cap a w.window) w.in_seat,
      )

  pub settled-exists : Proper I → (S : Sheet) × Settled I S
  settled-exists proper = let t = settled-from I proper first first-feasible first-full in (t.sheet, t.settled)
