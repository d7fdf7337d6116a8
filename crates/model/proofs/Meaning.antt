-- What the search and the marks mean, in the terms of the crate `fairness`. Assumes nothing.
use mathlib.Core.Path.{◌≡◌, refl, sym, ap, ◌∙◌, subst}
use mathlib.Core.Bool.{Bool, true, false, ◌&&◌}
use mathlib.Core.Logic.{◌⊎◌, inl, inr, ◌↔◌}
use mathlib.Core.List.{List, [], ◌∷◌}
use Rattle.std.specs.Prelude.{None, Some}
use Prim.Native.Nat.{ℕ, ◌≤◌, ◌<◌}
use native.Mathlib.Decide.{dec_lt}
use native.Mathlib.Omega.{arith}
use lib.ListN.{length}
use Rattle.fairness.specs.Exchange.{Move, Exchange}
use Rattle.fairness.specs.Layers.{Within}
use Rattle.fairness.proofs.Theorems.{path-within, within-path, shortest, path-length, within-seats, within_more}
use Rattle.model.specs.Lowest.{is_some}
use Rattle.model.specs.Book.{Book, Grid, cell, seats, instance_of}
use Rattle.model.specs.Search.{Found, PathOn, Shortest, Picked, member, layer, reached, fewest, donor_of, first_receiver, search}
use Rattle.model.proofs.Tests.{and-true, not-true, true-not-false}
use Rattle.model.proofs.Lowest.{Lowest, Fails, lowest-is, lowest-fails, lowest-some, lowest-cases, is_some-lowest, is_some-Lowest}
use Rattle.model.proofs.Sets.{In}
use Rattle.model.proofs.Layers.{within-seat, layer-within}

module _ (b : Book) (s : Grid) where
  -- the instance has the book's seats
  of-seats : (i : ℕ) → (i < seats b) ↔ (i < (instance_of b).seats)
  unfolding instance_of
  of-seats i = (λ l. l, λ l. l)

  -- where a path that has moves starts and ends
  path-ends : (g l : ℕ) (ms : List Move) → PathOn b s g l ms → (g ≡ l) ⊎ ((g < seats b) × (l < seats b))
  path-ends g l [] p = inl p.linked
  path-ends g l (m ∷ ms) p =
      let lg : g < seats b = (of-seats g).1 (subst (λ (x : ℕ). x < (instance_of b).seats) p.linked.0 p.possible.0.in_taker) in
      inr (lg, within-seat b s g lg (length (m ∷ ms)) l (path-within (instance_of b) (cell s) g l (m ∷ ms) p))

  module _ (g : ℕ) (lg : g < seats b) where
    path-few : (l : ℕ) (ms : List Move) → PathOn b s g l ms → length ms < seats b
    path-few l ms p = (of-seats (length ms)).1 (path-length (instance_of b) (cell s) g l ms ((of-seats g).0 lg) p)

    -- a seat is in the set reached exactly when a path leads to it
    pub reached-means : (l : ℕ) → In l (reached b s g) ↔ ((ms : List Move) × PathOn b s g l ms)
    unfolding reached
    reached-means l = (to, from)
      where
        to : In l (reached b s g) → (ms : List Move) × PathOn b s g l ms
        to i =
            let p = within-path (instance_of b) (cell s) (seats b) g l ((layer-within b s g lg (seats b) l).0 i) in
            (p.0, p.1)

        from : (ms : List Move) × PathOn b s g l ms → In l (reached b s g)
        from p =
            (layer-within b s g lg (seats b) l).1
            (within_more (instance_of b) (cell s) (length p.0) (seats b) g l (omega (arith, path-few l p.0 p.1))
            (path-within (instance_of b) (cell s) g l p.0 p.1))

    -- `fewest` is the number of moves of a shortest path
    pub fewest-means : (l r : ℕ) → (fewest b s g l ≡ Some r) ↔ Shortest b s g l r
    unfolding fewest
    fewest-means l r = (to, from)
      where
        to : fewest b s g l ≡ Some r → Shortest b s g l r
        to e =
            let low = lowest-some (seats b) (λ r. member l (layer b s g r)) r e in
            let never : (q : ℕ) → q < r → Within (instance_of b) (cell s) q g l → ⊥ =
            (λ q lq w. true-not-false _ ((layer-within b s g lg q l).1 w) (low.least q lq)) in
            let p = shortest (instance_of b) (cell s) r g l ((layer-within b s g lg r l).0 low.passes) never in
            record {
              moves = p.0;
              path = p.1;
              count = p.2;
              least = λ ms q. most ms (never (length ms)) (path-within (instance_of b) (cell s) g l ms q);
            }
          where
            most : (ms : List Move) → (length ms < r → Within (instance_of b) (cell s) (length ms) g l → ⊥) →
                Within (instance_of b) (cell s) (length ms) g l → r ≤ length ms
            most ms never w = go (dec_lt (length ms) r)
              where
                go : Dec (length ms < r) → r ≤ length ms
                go (yes l) = absurd (never l w)
                go (no l) = omega arith

        from : Shortest b s g l r → fewest b s g l ≡ Some r
        from h =
            lowest-is (seats b) (λ r. member l (layer b s g r)) r (record {
              below = omega (arith, path-few l h.moves h.path, h.count);
              passes = (layer-within b s g lg r l).1 (rw h.count at (path-within (instance_of b) (cell s) g l h.moves h.path));
              least = λ q lq. not-true _ (λ i. before q lq ((layer-within b s g lg q l).0 i));
            })
          where
            before : (q : ℕ) → q < r → Within (instance_of b) (cell s) q g l → ⊥
            before q lq w =
                let p = within-path (instance_of b) (cell s) q g l w in
                omega (arith, h.least p.0 p.1, p.2)

    -- a seat that is reached has a shortest path
    pub reached-fewest : (l : ℕ) → In l (reached b s g) → (r : ℕ) × (fewest b s g l ≡ Some r)
    unfolding fewest reached
    reached-fewest l i =
        let w = within-seats (instance_of b) (cell s) (seats b) g l ((of-seats g).0 lg) ((layer-within b s g lg (seats b) l).0 i) in
        let in-layer = (layer-within b s g lg w.0 l).1 w.2 in
        let found = is_some-Lowest (seats b) (λ r. member l (layer b s g r))
        (is_some-lowest (seats b) (λ r. member l (layer b s g r)) w.0 ((of-seats w.0).1 w.1) in-layer) in
        (found.0, lowest-is (seats b) (λ r. member l (layer b s g r)) found.0 found.1)

  module _ (test : ℕ → ℕ → Bool) (apart : (g : ℕ) → test g g ≡ false) where
    wanted : ℕ → ℕ → Bool
    wanted g l = member l (reached b s g) && test g l

    -- whether a receiver has a donor
    donor-of : (g l : ℕ) (ms : List Move) → g < seats b → PathOn b s g l ms → test g l ≡ true → is_some (donor_of b s test g) ≡ true
    unfolding donor_of wanted
    donor-of g l ms lg p e =
        is_some-lowest (seats b) (wanted g) l (at (path-ends g l ms p)) ((and-true _ _).1 ((reached-means g lg l).1 (ms, p), e))
      where
        at : (g ≡ l) ⊎ ((g < seats b) × (l < seats b)) → l < seats b
        at (inl q) = subst (λ (x : ℕ). x < seats b) q lg
        at (inr q) = q.1

    -- a receiver that passes with a donor is a seat
    in_seats : (g l : ℕ) (ms : List Move) → PathOn b s g l ms → test g l ≡ true → g < seats b
    in_seats g l ms p e = at (path-ends g l ms p)
      where
        at : (g ≡ l) ⊎ ((g < seats b) × (l < seats b)) → g < seats b
        at (inl q) = absurd (true-not-false _ e (ap (test g) (sym q) ∙ apart g))
        at (inr q) = q.0

    -- what a donor that was found has
    donor-path : (g : ℕ) → g < seats b → (l : ℕ) → wanted g l ≡ true → ((ms : List Move) × PathOn b s g l ms) × (test g l ≡ true)
    unfolding wanted
    donor-path g lg l e = let both = (and-true _ _).0 e in ((reached-means g lg l).0 both.0, both.1)

    has-donor : (g : ℕ) → is_some (donor_of b s test g) ≡ true → (l : ℕ) × Lowest (seats b) (wanted g) l
    unfolding donor_of wanted
    has-donor g e = is_some-Lowest (seats b) (wanted g) e

    -- a receiver before all that have donors has none
    no-donor : (g : ℕ) → g < seats b → ((l : ℕ) (ms : List Move) → PathOn b s g l ms → test g l ≡ false) →
        is_some (donor_of b s test g) ≡ false
    no-donor g lg None-passes = not-true _ (λ e.
        let found = has-donor g e in
        let p = donor-path g lg found.0 found.1.passes in
        true-not-false _ p.1 (None-passes found.0 p.0.0 p.0.1))

    search_is : (f : Found) → Picked b s test f → search b s test ≡ Some f
    unfolding search first_receiver donor_of wanted
    search_is f p =
        let g = f.receiver in
        let l = f.donor in
        let way = p.shortest.path in
        let receiver_is : first_receiver b s test ≡ Some g = lowest-is (seats b) (λ g. is_some (donor_of b s test g)) g (record {
          below = p.seat;
          passes = donor-of g l p.shortest.moves p.seat way p.passes;
          least = λ h lh. no-donor h (omega (arith, p.seat)) (λ k ms q. p.first_receiver h k ms lh q);
        }) in
        let donor_is : donor_of b s test g ≡ Some l = lowest-is (seats b) (wanted g) l (record {
          below = donor-seat g l p.seat (path-ends g l p.shortest.moves way);
          passes = (and-true _ _).1 ((reached-means g p.seat l).1 (p.shortest.moves, way), p.passes);
          least = λ k lk. not-true _ (λ e.
              let q = donor-path g p.seat k e in
              true-not-false _ q.1 (p.lowest_donor k q.0.0 lk q.0.1));
        }) in
        rw (receiver_is, donor_is, (fewest-means g p.seat l f.moves).1 p.shortest) refl
      where
        donor-seat : (g l : ℕ) → g < seats b → (g ≡ l) ⊎ ((g < seats b) × (l < seats b)) → l < seats b
        donor-seat g l lg (inl q) = subst (λ (x : ℕ). x < seats b) q lg
        donor-seat g l lg (inr q) = q.1

    search-fails : (Exchange (instance_of b) (cell s) test → ⊥) → search b s test ≡ None
    unfolding search first_receiver
    search-fails q = rw (lowest-fails (seats b) (λ g. is_some (donor_of b s test g)) fails) refl
      where
        fails : Fails (seats b) (λ g. is_some (donor_of b s test g))
        fails g lg = no-donor g lg (λ l ms p. not-true _ (λ e. q (record { receiver = g; donor = l; moves = ms; path = p; wanted = e })))

    -- no path passes, or the rule picks one
    pub search-cases : (Exchange (instance_of b) (cell s) test → ⊥) ⊎ ((f : Found) × Picked b s test f)
    unfolding wanted
    search-cases = go (lowest-cases (seats b) (λ g. is_some (donor_of b s test g)))
      where
        go : Fails (seats b) (λ g. is_some (donor_of b s test g)) ⊎ ((g : ℕ) × Lowest (seats b) (λ g. is_some (donor_of b s test g)) g) →
            (Exchange (instance_of b) (cell s) test → ⊥) ⊎ ((f : Found) × Picked b s test f)
        go (inl fails) =
            inl (λ x.
            let lg = in_seats x.receiver x.donor x.moves x.path x.wanted in
            true-not-false _ (donor-of x.receiver x.donor x.moves lg x.path x.wanted) (fails x.receiver lg))
        go (inr first) =
            let g = first.0 in
            let lg = first.1.below in
            let found = has-donor g first.1.passes in
            let l = found.0 in
            let p = donor-path g lg l found.1.passes in
            let r = reached-fewest g lg l ((reached-means g lg l).1 p.0) in
            inr (
              record { receiver = g; donor = l; moves = r.0 },
              record {
                seat = lg;
                passes = p.1;
                shortest = (fewest-means g lg l r.0).0 r.1;
                lowest_donor = λ k ms lk q. not-true _ (λ e.
                    true-not-false _ ((and-true _ _).1 ((reached-means g lg k).1 (ms, q), e)) (found.1.least k lk));
                first_receiver = λ h k ms lh q. not-true _ (λ e.
                    true-not-false _ (donor-of h k ms (omega (arith, lg)) q e) (first.1.least h lh));
              },
            )

    -- the search finds nothing exactly where no path passes
    pub search-none : (search b s test ≡ None) ↔ (Exchange (instance_of b) (cell s) test → ⊥)
    search-none = (λ e. go e search-cases, search-fails)
      where
        go : search b s test ≡ None → (Exchange (instance_of b) (cell s) test → ⊥) ⊎ ((f : Found) × Picked b s test f) →
            Exchange (instance_of b) (cell s) test → ⊥
        go e (inl q) = q
        go e (inr p) = absurd (let z : ◌≡◌ {A = ℕ} 0 1 = cc (search_is p.0 p.1) in omega arith)

    -- the search finds what paper 01's rule picks
    pub search-some : (f : Found) → (search b s test ≡ Some f) ↔ Picked b s test f
    search-some f = (λ e. go e search-cases, search_is f)
      where
        go : search b s test ≡ Some f → (Exchange (instance_of b) (cell s) test → ⊥) ⊎ ((h : Found) × Picked b s test h) → Picked b s test f
        go e (inl q) = absurd (let z : ◌≡◌ {A = ℕ} 0 1 = cc (search-fails q) in omega arith)
        go e (inr p) = let same : p.0 ≡ f = cc (search_is p.0 p.1) in rw same at p.1
