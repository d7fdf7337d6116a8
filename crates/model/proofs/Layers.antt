-- The layers of the search hold exactly the seats that so many moves reach. Assumes nothing.
use mathlib.Core.Path.{◌≡◌, refl, sym, subst}
use mathlib.Core.Bool.{Bool, true, ◌&&◌, ◌||◌}
use mathlib.Core.Logic.{◌⊎◌, inl, inr, ◌↔◌}
use mathlib.Core.List.{List, []}
use Prim.Native.Nat.{ℕ, zero, suc, ◌<◌}
use native.Mathlib.Omega.{arith}
use lib.Dec.{ltb}
use borrow.Author.Tests.{ltb-true, lt-ltb}
use Rattle.fairness.specs.Layers.{Edge, Within}
use Rattle.fairness.specs.Leximin.{table}
use Rattle.model.specs.Book.{Book, Grid, cell, seats, windows, instance_of}
use Rattle.model.specs.Search.{member, any, can_take, grow, layer}
use Rattle.model.proofs.Tests.{and-true, or-true}
use Rattle.model.proofs.Lowest.{is_some-lowest, is_some-Lowest}
use Rattle.model.proofs.Sets.{In, in-nil, in-cons, in-any, in-filter, in_table}

module _ (b : Book) (s : Grid) where
  -- a possible move, computed
  pub can_take-edge : (i k : ℕ) → i < seats b → k < seats b → (can_take b s i k ≡ true) ↔ Edge (instance_of b) (cell s) i k
  unfolding can_take instance_of
  can_take-edge i k li lk = (to, from)
    where
      open_at : ℕ → Bool
      open_at j = ltb (cell s i j) (cell b.caps i j) && ltb 0 (cell s k j)

      to : can_take b s i k ≡ true → Edge (instance_of b) (cell s) i k
      to e =
          let w = is_some-Lowest (windows b) open_at e in
          let both = (and-true (ltb (cell s i w.0) (cell b.caps i w.0)) (ltb 0 (cell s k w.0))).0 w.1.passes in
          record {
            window = w.0;
            possible = record {
              in_window = w.1.below;
              in_giver = lk;
              in_taker = li;
              has = ltb-true _ _ both.1;
              room = ltb-true _ _ both.0;
            };
          }

      from : Edge (instance_of b) (cell s) i k → can_take b s i k ≡ true
      from e =
          is_some-lowest (windows b) open_at e.window e.possible.in_window
          ((and-true _ _).1 (lt-ltb _ _ e.possible.room, lt-ltb _ _ e.possible.has))

  -- who is in a set that has grown
  in-grow : (set : List ℕ) (l : ℕ) → In l (grow b s set) ↔ ((l < seats b) × (In l set ⊎ ((k : ℕ) × (In k set × (can_take b s k l ≡ true)))))
  unfolding grow
  in-grow set l = (to, from)
    where
      test : ℕ → Bool
      test l = member l set || any (λ k. can_take b s k l) set

      to : In l (grow b s set) → (l < seats b) × (In l set ⊎ ((k : ℕ) × (In k set × (can_take b s k l ≡ true))))
      to e =
          let kept = (in-filter test l (table (seats b) (λ i. i))).0 e in
          let w = (in_table (seats b) (λ i. i) l).0 kept.0 in
          (omega (arith, w.1.0, w.1.1), go ((or-true (member l set) (any (λ k. can_take b s k l) set)).0 kept.1))
        where
          go : In l set ⊎ (any (λ k. can_take b s k l) set ≡ true) → In l set ⊎ ((k : ℕ) × (In k set × (can_take b s k l ≡ true)))
          go (inl i) = inl i
          go (inr a) = inr ((in-any (λ k. can_take b s k l) set).0 a)

      from : (l < seats b) × (In l set ⊎ ((k : ℕ) × (In k set × (can_take b s k l ≡ true)))) → In l (grow b s set)
      from p =
          (in-filter test l (table (seats b) (λ i. i))).1
          ((in_table (seats b) (λ i. i) l).1 (l, (p.0, refl)), (or-true (member l set) (any (λ k. can_take b s k l) set)).1 (go p.1))
        where
          go : In l set ⊎ ((k : ℕ) × (In k set × (can_take b s k l ≡ true))) → In l set ⊎ (any (λ k. can_take b s k l) set ≡ true)
          go (inl i) = inl i
          go (inr w) = inr ((in-any (λ k. can_take b s k l) set).1 w)

  module _ (g : ℕ) (lg : g < seats b) where
    pub within-seat : (r l : ℕ) → Within (instance_of b) (cell s) r g l → l < seats b
    unfolding instance_of
    within-seat zero l e = subst (λ (x : ℕ). x < seats b) e lg
    within-seat (suc r) l (inl w) = within-seat r l w
    within-seat (suc r) l (inr w) = w.2.1.possible.in_giver

    -- a layer is what paths of at most so many moves reach
    pub layer-within : (r l : ℕ) → In l (layer b s g r) ↔ Within (instance_of b) (cell s) r g l
    unfolding layer instance_of
    layer-within zero l = (λ e. to ((in-cons l g []).0 e), λ e. (in-cons l g []).1 (inl (sym e)))
      where
        to : (l ≡ g) ⊎ In l [] → g ≡ l
        to (inl e) = sym e
        to (inr e) = absurd (in-nil l e)
    layer-within (suc r) l = (
      λ e. to (λ l. (layer-within r l).0) ((in-grow (layer b s g r) l).0 e),
      λ w. from (λ l. (layer-within r l).1) w,
    )
      where
        to : ((l : ℕ) → In l (layer b s g r) → Within (instance_of b) (cell s) r g l) →
            (l < seats b) × (In l (layer b s g r) ⊎ ((k : ℕ) × (In k (layer b s g r) × (can_take b s k l ≡ true)))) →
            Within (instance_of b) (cell s) (suc r) g l
        to ih p = go p.1
          where
            go : In l (layer b s g r) ⊎ ((k : ℕ) × (In k (layer b s g r) × (can_take b s k l ≡ true))) →
                Within (instance_of b) (cell s) (suc r) g l
            go (inl i) = inl (ih l i)
            go (inr w) =
                let lk = within-seat r w.0 (ih w.0 w.1.0) in
                inr (w.0, lk, (ih w.0 w.1.0, (can_take-edge w.0 l lk p.0).0 w.1.1))

        from : ((l : ℕ) → Within (instance_of b) (cell s) r g l → In l (layer b s g r)) →
            Within (instance_of b) (cell s) (suc r) g l → In l (layer b s g (suc r))
        from ih (inl w) = (in-grow (layer b s g r) l).1 (within-seat r l w, inl (ih l w))
        from ih (inr w) =
            let ll = w.2.1.possible.in_giver in
            (in-grow (layer b s g r) l).1 (ll, inr (w.0, (ih w.0 w.2.0, (can_take-edge w.0 l w.1 ll).1 w.2.1)))
