-- From what is in memory to what paper 01's rule picks. Assumes nothing.
use mathlib.Core.Path.{◌≡◌, refl, sym, ap, ◌∙◌}
use mathlib.Core.Bool.{true}
use mathlib.Core.List.{List, [], ◌∷◌}
use Prim.Native.Nat.{ℕ, ◌<◌, ◌≤◌}
use native.Mathlib.Decide.{dec_lt}
use native.Mathlib.Omega.{arith}
use lib.ListN.{length}
use Rattle.fairness.specs.Instance.{Instance, Sheet}
use Rattle.fairness.specs.Exchange.{Move, Path, Exchange, improves_at, ties_at}
use Rattle.fairness.proofs.Theorems.{path-within, improves-apart, ties-apart}
use Rattle.model.proofs.Tests.{not-true}
use Rattle.reach.specs.declared.Graph.{Graph}
use Rattle.paths.specs.declared.Path as memory
use Rattle.paths.specs.Paths.{moves_of, Nearest}
use Rattle.paths.specs.Steps.{Drawn}
use Rattle.receiver.specs.declared.Kind.{Kind}
use Rattle.receiver.specs.declared.Kind.TheVariants.{Improving, WronglyTied}
use Rattle.receiver.specs.declared.Score.{Score}
use Rattle.receiver.specs.Tests.{test_by, score_at}
use Rattle.receiver.specs.Donors.{Donor, NoDonor}
use Rattle.search.specs.Steps.{FirstPair}
use Rattle.paths.proofs.Bridge.{within-reach, reach-seat}
use Rattle.exchange.specs.Paths.{Chosen}
use Rattle.exchange.proofs.Tests.{test_of, Scored}

-- ---- the tests

-- no seat wants itself
pub test-apart : (kind : Kind) (I : Instance) (S : Sheet) (g : ℕ) → test_of kind I S g g ≡ true → ⊥
test-apart Improving I S g e = improves-apart I S g e
test-apart WronglyTied I S g e = ties-apart I S g e

module _ (I : Instance) (S : Sheet) (scores : List Score) (s : Scored I S scores) where
  -- scores are those of the instance
  test-same : (kind : Kind) (g l : ℕ) → g < I.seats → l < I.seats
      → test_of kind I S g l ≡ test_by kind (score_at scores g) (score_at scores l)
  unfolding improves_at ties_at
  test-same Improving g l a b =
      rw (s.heights_are g a, s.weights_are g a, s.heights_are l b, s.weights_are l b) refl
  test-same WronglyTied g l a b =
      rw (s.heights_are g a, s.weights_are g a, s.positions_are g a, s.heights_are l b, s.weights_are l b, s.positions_are l b) refl

-- ---- from scores and paths in memory to those of an instance

module _ (I : Instance) (S : Sheet) (scores : List Score) (s : Scored I S scores) where
  module _ (kind : Kind) (graph : Graph) (d : Drawn I S graph) (n : I.seats ≡ length scores) where
    -- a path to a donor that is wanted
    donor-of : (g l : ℕ) (ms : List Move) → g < length scores → Path I S g l ms → test_of kind I S g l ≡ true → Donor kind scores graph g l
    donor-of g l ms h p t =
        let r = within-reach I S graph d (length ms) g l (path-within I S g l ms p) in
        let there = reach-seat I S graph d (length ms) g l (omega arith) r in
        ((length ms, r), (omega (arith, there), sym (test-same I S scores s kind g l (omega arith) there) ∙ t))

    pub chosen : (g l : ℕ) (x : memory.Path) → FirstPair kind scores graph g l → Nearest graph g l x
        → Chosen I S (test_of kind I S) g l (moves_of x)
    chosen g l x f nearest = record {
      seat = omega (arith, f.seat);
      passes = test-same I S scores s kind g l (omega (arith, f.seat)) (omega (arith, f.donor.1.0)) ∙ f.donor.1.1;
      path = nearest.path I S d;
      least = λ ns p. go ns p (dec_lt (length ns) x.count);
      lowest_donor = λ k ns h p. not-true _ (λ t. f.lowest k h (donor-of g k ns f.seat p t));
      first_receiver = λ h k ns b p. not-true _ (λ t. f.earlier h k b (donor-of h k ns (omega (arith, f.seat)) p t));
    }
      where
        go : (ns : List Move) → Path I S g l ns → Dec (length ns < x.count) → length (moves_of x) ≤ length ns
        go ns p (yes h) = absurd (nearest.fewest (length ns) h (within-reach I S graph d (length ns) g l (path-within I S g l ns p)))
        go ns p (no h) = omega (arith, nearest.counted)

    pub nobody : NoDonor kind scores graph → Exchange I S (test_of kind I S) → ⊥
    nobody none x = go x.moves x.path
      where
        go : (ms : List Move) → Path I S x.receiver x.donor ms → ⊥
        go [] p = test-apart kind I S x.receiver (ap (test_of kind I S x.receiver) p.linked ∙ x.wanted)
        go (m ∷ ms) p =
            let h : x.receiver < length scores = omega (arith, p.linked.0, p.possible.0.in_taker) in
            none x.receiver x.donor h (donor-of x.receiver x.donor (m ∷ ms) h p x.wanted)
