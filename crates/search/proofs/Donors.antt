-- The first pair of a receiver and a donor, from sets of seats. Assumes nothing.
use mathlib.Core.Path.{◌≡◌}
use mathlib.Core.List.{List}
use mathlib.Core.Logic.{◌↔◌}
use Prim.Native.Nat.{ℕ, min, ◌<◌}
use native.Mathlib.Omega.{arith}
use Rattle.masks.specs.Sets.{bit, In, Lowest}
use Rattle.masks.proofs.Laws.{bit-lt, in_pos}
use Rattle.reach.specs.declared.Graph.{Graph}
use Rattle.reach.specs.Graphs.{Reached}
use Rattle.receiver.specs.declared.Kind.{Kind}
use Rattle.receiver.specs.declared.Score.{Score}
use Rattle.receiver.specs.Tests.{Wants}
use Rattle.receiver.specs.Donors.{Donor, First}
use Rattle.search.specs.Steps.{FirstPair}

module _ (kind : Kind) (scores : List Score) (graph : Graph) (g wanted : ℕ)
    (wants : (l : ℕ) → In l wanted ↔ Wants kind scores g l) (reached both : ℕ) (reaches : (l : ℕ) → In l reached ↔ Reached graph g l)
    (shared : (l : ℕ) → bit both l ≡ min (bit wanted l) (bit reached l)) (f : First kind scores graph g) where
  donor-in : (l : ℕ) → Donor kind scores graph g l → In l both
  donor-in l d = omega (arith, shared l, (wants l).1 d.1, (reaches l).1 d.0)

  pub some-donor : 0 < both
  some-donor = in_pos both f.some.0 (donor-in f.some.0 f.some.1)

  pub first-pair : (l : ℕ) → Lowest both l → FirstPair kind scores graph g l
  first-pair l low =
      let here = low.here in
      let in-reached : In l reached = omega (arith, shared l, bit-lt reached l) in
      let in-wanted : In l wanted = omega (arith, shared l, bit-lt wanted l) in
      record {
        seat = f.seat;
        donor = ((reaches l).0 in-reached, (wants l).0 in-wanted);
        lowest = λ k h d. omega (arith, low.least k h, donor-in k d);
        earlier = f.earlier;
      }
