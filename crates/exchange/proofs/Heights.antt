-- A loop that works out each seat's score. Assumes nothing.
use mathlib.Core.Path.{◌≡◌, ap}
use mathlib.Core.List.{List}
use Prim.Native.Nat.{ℕ, ◌+◌, ◌≤◌, ◌<◌}
use native.Mathlib.Omega.{arith}
use lib.ListN.{get_or, take}
use lib.Seq.{get_or-take}
use Rattle.lists.proofs.Arrays.{Filled, filled_at}
use Rattle.fairness.specs.Numbers.{Moderate}
use Rattle.fairness.specs.Sums.{sum}
use Rattle.fairness.specs.Instance.{Instance, Feasible}
use Rattle.fairness.proofs.Sums.{sum-eq}
use Rattle.model.specs.Book.{Grid, cell}
use Rattle.sheet.proofs.Sums.{sum_bound}
use Rattle.instance.specs.declared.Terms.{Terms}
use Rattle.instance.specs.Terms.{instance_in, Told, Shows, Small}
use Rattle.instance.proofs.Told.{feasible-small}
use Rattle.receiver.specs.declared.Score.{Score}
use Rattle.receiver.specs.Tests.{no_score, score_at}
use Rattle.exchange.proofs.Tests.{Scored}

-- a seat's base and its credits
abbrev pub total_at : Grid → Terms → ℕ → ℕ
total_at grid t i = get_or t.bases i 0 + sum t.windows (λ j. cell grid i j)

-- the score of a seat
pub record ScoreOf (grid : Grid) (t : Terms) (i : ℕ) (x : Score) : Type 0 where
  pub height_is : x.height ≡ total_at grid t i
  pub weight_is : x.weight ≡ get_or t.weights i 0
  pub position_is : x.position ≡ get_or t.positions i 0

-- the first k scores are known
abbrev pub Known : Grid → Terms → List Score → ℕ → List Score → Type 0
Known grid t old k scores = Filled (ScoreOf grid t) no_score 32 t.seats old k scores

module _ (t : Terms) (caps grid : Grid) where
  -- a feasible sheet of small numbers has small scores
  pub moderate : Small t caps → Feasible (instance_in t caps) (cell grid) → (i : ℕ) → i < t.seats → (h w : ℕ) → h ≡ total_at grid t i
      → w ≡ get_or t.weights i 0 → Moderate h w
  moderate small feasible i li h w e f = record {
    height_most =
        let most = sum_bound 4095 t.windows (λ j. cell grid i j) (λ j lj. feasible-small t caps small grid feasible i j li lj) in
        omega (arith, small.ranged.bases_most i li, small.ranged.windows_most);
    weight_least = omega (arith, small.ranged.weights_least i li);
    weight_most = omega (arith, small.ranged.weights_most i li);
  }

  module _ (k : ℕ) (old scores : List Score) (l : t.seats ≤ k) (known : Known grid t old k scores) where
    -- a seat's score among those of the seats
    at : (i : ℕ) → i < t.seats → ScoreOf grid t i (score_at (take t.seats scores) i)
    at i li = rw (get_or-take t.seats scores i no_score li) (filled_at known l i li)

    pub scored : (I : Instance) (S : ℕ → ℕ → ℕ) → Told I t caps → Shows t S grid → Scored I S (take t.seats scores)
    scored I S told shows =
        let seat : (i : ℕ) → i < I.seats → i < t.seats = λ i li. omega (arith, told.seats_are) in
        record {
          heights_are = λ i li.
              let cells = sum-eq t.windows (S i) (λ j. cell grid i j) (λ j lj. shows i j (seat i li) lj) in
              let used = ap (λ (m : ℕ). sum m (S i)) told.windows_are in
              omega (arith, told.bases_are i (seat i li), cells, used, (at i (seat i li)).height_is);
          weights_are = λ i li. omega (arith, told.weights_are i (seat i li), (at i (seat i li)).weight_is);
          positions_are = λ i li. omega (arith, told.positions_are i (seat i li), (at i (seat i li)).position_is);
        }
