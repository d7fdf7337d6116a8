-- Moves played in order: what one move changes, and that a path's moves are each possible at their turn.
use mathlib.Core.Path.{◌≡◌, refl, sym, ap, ◌∙◌}
use mathlib.Core.List.{List, [], ◌∷◌}
use Prim.Native.Nat.{ℕ, ◌+◌, ◌-◌, ◌≤◌, ◌<◌}
use native.Mathlib.Decide.{ℕ_discrete}
use native.Mathlib.Omega.{arith}
use Rattle.fairness.specs.Sums.{sum, keep}
use Rattle.fairness.specs.Instance.{Instance, Sheet, Feasible, Wasteful, placed, total}
use Rattle.fairness.specs.Exchange.{Move, one, hit, play, play_all, Possible, PlaysOut, All, Linked, Path}
use Rattle.fairness.proofs.Sums.{sum-eq, sum-add, sum-none}
use Rattle.fairness.proofs.Decide.{sum-at, keep-no}
use Rattle.fairness.proofs.Walks.{givers}

-- ---- a hit counts once in its row and once in its column

pub hit-row : (m i j a : ℕ) → j < m → sum m (λ b. hit i j a b) ≡ one i a
hit-row m i j a l = go (ℕ_discrete a i)
  where
    go : (d : Dec (a ≡ i)) → sum m (λ b. keep d (one j b)) ≡ keep d 1
    go (yes p) = sum-at m j 1 l
    go (no p) = sum-none m (λ b. 0) (λ b k. refl)

pub hit-column : (n i j b : ℕ) → i < n → sum n (λ a. hit i j a b) ≡ one j b
hit-column n i j b l = sum-at n i (one j b) l

pub off-seat : (i j a b : ℕ) → (a ≡ i → ⊥) → hit i j a b ≡ 0
off-seat i j a b q = keep-no (ℕ_discrete a i) (one j b) q

off-window : (i j a b : ℕ) → (b ≡ j → ⊥) → hit i j a b ≡ 0
off-window i j a b q = go (ℕ_discrete a i)
  where
    go : (d : Dec (a ≡ i)) → keep d (one j b) ≡ 0
    go (yes p) = keep-no (ℕ_discrete b j) 1 q
    go (no p) = refl

-- one credit more in a cell that is below its cap leaves every cell within its cap
pub hit-within : (I : Instance) (S : Sheet) (i j a b : ℕ) → S i j < I.cap i j → S a b ≤ I.cap a b → S a b + hit i j a b ≤ I.cap a b
hit-within I S i j a b r h = go (ℕ_discrete a i) (ℕ_discrete b j)
  where
    go : (d : Dec (a ≡ i)) (e : Dec (b ≡ j)) → S a b + keep d (keep e 1) ≤ I.cap a b
    go (yes p) (yes q) = let s : S a b < I.cap a b = rw (p, q) r in omega arith
    go (yes p) (no q) = omega arith
    go (no p) e = omega arith

module _ (I : Instance) where
  -- ---- one move

  module _ (S : Sheet) (m : Move) (p : Possible I S m) where
    pub moved : (a b : ℕ) → play S m a b + hit m.giver m.window a b ≡ S a b + hit m.taker m.window a b
    unfolding play
    moved a b = go (S a b + hit m.taker m.window a b) (omega arith) (ℕ_discrete a m.giver) (ℕ_discrete b m.window)
      where
        go : (x : ℕ) → S a b ≤ x → (d : Dec (a ≡ m.giver)) (e : Dec (b ≡ m.window)) → x - keep d (keep e 1) + keep d (keep e 1) ≡ x
        go x l (yes c) (yes q) = let h : 0 < S a b = rw (c, q) p.has in omega arith
        go x l (yes c) (no q) = omega arith
        go x l (no c) e = omega arith

    pub play-placed : (b : ℕ) → placed I (play S m) b ≡ placed I S b
    play-placed b =
        omega (
          arith,
          sum-eq I.seats _ _ (λ a l. moved a b),
          sum-add I.seats (λ a. play S m a b) (λ a. hit m.giver m.window a b),
          sum-add I.seats (λ a. S a b) (λ a. hit m.taker m.window a b),
          hit-column I.seats m.giver m.window b p.in_giver,
          hit-column I.seats m.taker m.window b p.in_taker,
        )

    pub play-total : (a : ℕ) → total I (play S m) a + one m.giver a ≡ total I S a + one m.taker a
    play-total a =
        omega (
          arith,
          sum-eq I.windows _ _ (λ b l. moved a b),
          sum-add I.windows (λ b. play S m a b) (λ b. hit m.giver m.window a b),
          sum-add I.windows (λ b. S a b) (λ b. hit m.taker m.window a b),
          hit-row I.windows m.giver m.window a p.in_window,
          hit-row I.windows m.taker m.window a p.in_window,
        )

    pub play-feasible : Feasible I S → Feasible I (play S m)
    play-feasible f =
        record {
          within = λ a b la lb.
              omega (arith, moved a b, hit-within I S m.taker m.window a b p.room (f.within a b la lb));
          fits = λ b lb. omega (arith, play-placed b, f.fits b lb);
        }

    -- what is wasted after the move was wasted before it
    pub play-wasteful : Wasteful I (play S m) → Wasteful I S
    play-wasteful w = go (ℕ_discrete w.window m.window)
      where
        left : placed I S w.window < I.supply w.window
        left = omega (arith, play-placed w.window, w.left)

        go : Dec (w.window ≡ m.window) → Wasteful I S
        go (yes e) =
            record {
              window = w.window;
              seat = m.taker;
              in_window = w.in_window;
              in_seat = p.in_taker;
              left = left;
              room = rw e p.room;
            }
        go (no e) =
            record {
              window = w.window;
              seat = w.seat;
              in_window = w.in_window;
              in_seat = w.in_seat;
              left = left;
              room =
                  omega (
                    arith,
                    w.room,
                    moved w.seat w.window,
                    off-window m.giver m.window w.seat w.window e,
                    off-window m.taker m.window w.seat w.window e,
                  );
            }

    -- another move stays possible, where its taker has not taken and its giver has not given
    pub play-possible : (n : Move) → (n.taker ≡ m.taker → ⊥) → (n.giver ≡ m.giver → ⊥) → Possible I S n → Possible I (play S m) n
    play-possible n t g q =
        record {
          in_window = q.in_window;
          in_giver = q.in_giver;
          in_taker = q.in_taker;
          has =
              omega (
                arith,
                q.has,
                moved n.giver n.window,
                off-seat m.giver m.window n.giver n.window g,
              );
          room =
              omega (
                arith,
                q.room,
                moved n.taker n.window,
                off-seat m.taker m.window n.taker n.window t,
              );
        }

    -- so do the moves of a path that neither its taker nor, as a giver, its giver is on
    play-rest : (k l : ℕ) (ns : List Move) → Linked k ns l → (k ≡ m.taker → ⊥) → All (λ y. m.taker ≡ y → ⊥) (givers ns) →
        All (λ y. m.giver ≡ y → ⊥) (givers ns) → All (Possible I S) ns → All (Possible I (play S m)) ns
    play-rest k l [] e t ts gs a = tt
    play-rest k l (n ∷ ns) e t ts gs a = (
      play-possible n (λ c. t (sym e.0 ∙ c)) (λ c. gs.0 (sym c)) a.0,
      play-rest n.giver l ns e.1 (λ c. ts.0 (sym c)) ts.1 gs.1 a.1,
    )

  -- ---- a path

  -- after the first move of a path the rest is a path
  pub path-rest : (S : Sheet) (g l : ℕ) (m : Move) (ms : List Move) → Path I S g l (m ∷ ms) → Path I (play S m) m.giver l ms
  path-rest S g l m ms p =
      record {
        linked = p.linked.1;
        possible =
            play-rest S m p.possible.0 m.giver l ms p.linked.1
            (λ c. p.distinct.0.0 (sym (c ∙ p.linked.0)))
            (rw p.linked.0 p.distinct.0.1)
            p.distinct.1.0
            p.possible.1;
        distinct = p.distinct.1;
      }

  pub path-plays : (S : Sheet) (g l : ℕ) (ms : List Move) → Path I S g l ms → PlaysOut I S ms
  path-plays S g l [] p = tt
  path-plays S g l (m ∷ ms) p =
      (p.possible.0, path-plays (play S m) m.giver l ms (path-rest S g l m ms p))

  -- ---- moves that play out

  pub plays-feasible : (S : Sheet) (ms : List Move) → PlaysOut I S ms → Feasible I S → Feasible I (play_all S ms)
  plays-feasible S [] p f = f
  plays-feasible S (m ∷ ms) p f = plays-feasible (play S m) ms p.1 (play-feasible S m p.0 f)

  pub plays-wasteful : (S : Sheet) (ms : List Move) → PlaysOut I S ms → Wasteful I (play_all S ms) → Wasteful I S
  plays-wasteful S [] p w = w
  plays-wasteful S (m ∷ ms) p w = play-wasteful S m p.0 (plays-wasteful (play S m) ms p.1 w)

  -- the receiver has one more, the donor one less
  pub plays-total : (S : Sheet) (g l : ℕ) (ms : List Move) → PlaysOut I S ms → Linked g ms l →
      (a : ℕ) → total I (play_all S ms) a + one l a ≡ total I S a + one g a
  plays-total S g l [] p e a = ap (λ (x : ℕ). total I S a + one x a) (sym e)
  plays-total S g l (m ∷ ms) p e a =
      omega (
        arith,
        plays-total (play S m) m.giver l ms p.1 e.1 a,
        play-total S m p.0 a,
        ap (λ (x : ℕ). one x a) e.0,
      )
