-- Exchange paths and layers: a path's end is within its length, and a seat that is within r moves has a path of at most r moves.
use mathlib.Core.Path.{◌≡◌, refl, sym, ap, ◌∙◌, subst}
use mathlib.Core.Logic.{inl, inr}
use mathlib.Core.List.{List, [], ◌∷◌, ◌++◌, map}
use Prim.Native.Nat.{ℕ, zero, suc, ◌≤◌, ◌<◌}
use native.Mathlib.Nat.{le_refl, le_of_eq}
use native.Mathlib.Decide.{dec_lt, ℕ_discrete}
use native.Mathlib.Omega.{arith}
use lib.ListN.{length, length-map, length-append}
use Rattle.fairness.specs.Instance.{Instance, Sheet}
use Rattle.fairness.specs.Exchange.{Move, Possible, All, Linked, Path}
use Rattle.fairness.specs.Layers.{Edge, Within}
use Rattle.fairness.proofs.Decide.{both?, either?, below?}
use Rattle.fairness.proofs.Lists.{All-map, All-end, Distinct-end, Distinct-length}

-- ---- one move more at the end

abbrev pub givers : List Move → List ℕ
givers ms = map (λ (m : Move). m.giver) ms

givers-end : (ms : List Move) (m : Move) → givers (ms ++ (m ∷ [])) ≡ givers ms ++ (m.giver ∷ [])
givers-end [] m = refl
givers-end (x ∷ ms) m = ap (λ (l : List ℕ). x.giver ∷ l) (givers-end ms m)

Linked-end : (g k : ℕ) (ms : List Move) (m : Move) → Linked g ms k → m.taker ≡ k → Linked g (ms ++ (m ∷ [])) m.giver
Linked-end g k [] m e t = (t ∙ sym e, refl)
Linked-end g k (x ∷ ms) m e t = (e.0, Linked-end x.giver k ms m e.1 t)

module _ (I : Instance) (S : Sheet) where
  -- ---- edges and layers are decidable

  pub edge? : (i k : ℕ) → Dec (Edge I S i k)
  edge? i k =
      go (both? (dec_lt i I.seats) (dec_lt k I.seats))
      (below? (λ j. (S i j < I.cap i j) × (0 < S k j)) (λ j. both? (dec_lt (S i j) (I.cap i j)) (dec_lt 0 (S k j))) I.windows)
    where
      go : Dec ((i < I.seats) × (k < I.seats)) →
          Dec ((j : ℕ) × (j < I.windows) × ((S i j < I.cap i j) × (0 < S k j))) → Dec (Edge I S i k)
      go (yes s) (yes w) =
          yes
          (record {
            window = w.0;
            possible = record { in_window = w.1; in_giver = s.1; in_taker = s.0; has = w.2.1; room = w.2.0 };
          })
      go (yes s) (no w) =
          no (λ e. w (e.window, e.possible.in_window, (e.possible.room, e.possible.has)))
      go (no s) d = no (λ e. s (e.possible.in_taker, e.possible.in_giver))

  pub within? : (r g l : ℕ) → Dec (Within I S r g l)
  within? zero g l = ℕ_discrete g l
  within? (suc r) g l =
      either? (within? r g l)
      (below? (λ k. Within I S r g k × Edge I S k l) (λ k. both? (within? r g k) (edge? k l)) I.seats)

  pub within-self : (r g : ℕ) → Within I S r g g
  within-self zero g = refl
  within-self (suc r) g = inl (within-self r g)

  pub within_more : (r q g l : ℕ) → r ≤ q → Within I S r g l → Within I S q g l
  within_more r zero g l b w = let e : r ≡ 0 = omega arith in subst (λ (x : ℕ). Within I S x g l) e w
  within_more r (suc q) g l b w = go (within_more r q g l) (dec_lt r (suc q))
    where
      go : (r ≤ q → Within I S r g l → Within I S q g l) → Dec (r < suc q) → Within I S (suc q) g l
      go ih (yes c) = inl (ih (omega arith) w)
      go ih (no c) = let e : r ≡ suc q = omega arith in subst (λ (x : ℕ). Within I S x g l) e w

  -- ---- from paths to layers

  -- a move in front
  within-front : (r g k l : ℕ) → Edge I S g k → Within I S r k l → Within I S (suc r) g l
  within-front zero g k l e w = inr (g, e.possible.in_taker, (refl, subst (λ (x : ℕ). Edge I S g x) w e))
  within-front (suc r) g k l e (inl w) = inl (within-front r g k l e w)
  within-front (suc r) g k l e (inr w) = inr (w.0, w.1, (within-front r g k w.0 e w.2.0, w.2.1))

  pub edge_of : (m : Move) → Possible I S m → Edge I S m.taker m.giver
  edge_of m p = record { window = m.window; possible = p }

  linked-within : (g l : ℕ) (ms : List Move) → Linked g ms l → All (Possible I S) ms → Within I S (length ms) g l
  linked-within g l [] e a = e
  linked-within g l (m ∷ ms) e a =
      within-front (length ms) g m.giver l (subst (λ (x : ℕ). Edge I S x m.giver) e.0 (edge_of m a.0))
      (linked-within m.giver l ms e.1 a.1)

  pub path-within : (g l : ℕ) (ms : List Move) → Path I S g l ms → Within I S (length ms) g l
  path-within g l ms p = linked-within g l ms p.linked p.possible

  -- a path visits each seat once at the most
  pub path-length : (g l : ℕ) (ms : List Move) → g < I.seats → Path I S g l ms → length ms < I.seats
  path-length g l ms lg p =
      omega (
        arith,
        Distinct-length I.seats (g ∷ givers ms) p.distinct (lg, inside ms p.possible),
        length-map ms (λ (m : Move). m.giver),
      )
    where
      inside : (ms : List Move) → All (Possible I S) ms → All (λ x. x < I.seats) (givers ms)
      inside [] a = tt
      inside (m ∷ ms) a = (a.0.in_giver, inside ms a.1)

  -- ---- from layers to paths

  -- a path of r moves to l, whose seats are all within r moves
  record Shortest (r g l : ℕ) : Type 0 where
    moves : List Move
    path : Path I S g l moves
    long : length moves ≡ r
    reached : All (λ k. Within I S r g k) (givers moves)

  pub no-path : (g l : ℕ) → g ≡ l → Path I S g l []
  no-path g l e = record { linked = e; possible = tt; distinct = (tt, tt) }

  -- one move more, to a seat that is not on the path
  path-end : (g k l : ℕ) (ms : List Move) (e : Edge I S k l) → Path I S g k ms → All (λ x. x ≡ l → ⊥) (g ∷ givers ms) →
      Path I S g l (ms ++ (record { window = e.window; giver = l; taker = k } ∷ []))
  path-end g k l ms e p a =
      record {
        linked = Linked-end g k ms m p.linked refl;
        possible = All-end (Possible I S) ms m p.possible e.possible;
        distinct = rw (givers-end ms m) (Distinct-end (g ∷ givers ms) l p.distinct a);
      }
    where
      m : Move
      m = record { window = e.window; giver = l; taker = k }

  shortest-path : (r g l : ℕ) → Within I S r g l → ((q : ℕ) → q < r → Within I S q g l → ⊥) → Shortest r g l
  shortest-path zero g l w h = record { moves = []; path = no-path g l w; long = refl; reached = tt }
  shortest-path (suc r) g l (inl w) h = absurd (h r (le_refl (suc r)) w)
  shortest-path (suc r) g l (inr w) h =
      go w.0 w.1 w.2.1
      (shortest-path r g w.0 w.2.0 (λ q b v. h (suc q) (omega arith) (inr (w.0, w.1, (v, w.2.1)))))
    where
      far : (k : ℕ) → Within I S r g k → k ≡ l → ⊥
      far k v e = h r (le_refl (suc r)) (subst (λ (x : ℕ). Within I S r g x) e v)

      go : (k : ℕ) → k < I.seats → Edge I S k l → Shortest r g k → Shortest (suc r) g l
      go k b e s =
          record {
            moves = s.moves ++ (m ∷ []);
            path =
                path-end g k l s.moves e s.path
                (far g (within-self r g), All-map (λ x. Within I S r g x) (λ x. x ≡ l → ⊥) far (givers s.moves) s.reached);
            long = omega (arith, length-append s.moves (m ∷ []), s.long);
            reached =
                rw (givers-end s.moves m)
                (All-end (λ x. Within I S (suc r) g x) (givers s.moves) l
                (All-map (λ x. Within I S r g x) (λ x. Within I S (suc r) g x) (λ x v. inl v) (givers s.moves) s.reached)
                (inr (k, b, (linked-reach s, e))));
          }
        where
          m : Move
          m = record { window = e.window; giver = l; taker = k }

          linked-reach : Shortest r g k → Within I S r g k
          linked-reach s = subst (λ (x : ℕ). Within I S x g k) s.long (path-within g k s.moves s.path)

  pub shortest : (r g l : ℕ) → Within I S r g l → ((q : ℕ) → q < r → Within I S q g l → ⊥) →
      (ms : List Move) × Path I S g l ms × (length ms ≡ r)
  shortest r g l w h = let s : Shortest r g l = shortest-path r g l w h in (s.moves, s.path, s.long)

  pub within-path : (r g l : ℕ) → Within I S r g l → (ms : List Move) × Path I S g l ms × (length ms ≤ r)
  within-path zero g l w = ([], no-path g l w, le_refl 0)
  within-path (suc r) g l w = go (within-path r g l) (within? r g l)
    where
      go : (Within I S r g l → (ms : List Move) × Path I S g l ms × (length ms ≤ r)) → Dec (Within I S r g l) →
          (ms : List Move) × Path I S g l ms × (length ms ≤ suc r)
      go ih (yes v) = let p = ih v in (p.0, p.1, omega (arith, p.2))
      go ih (no v) =
          let s = shortest (suc r) g l w (λ q b x. v (within_more q r g l (omega arith) x)) in
          (s.0, s.1, le_of_eq s.2)

  -- one move more
  pub path-edge : (g k l : ℕ) (ms : List Move) → Path I S g k ms → Edge I S k l → (ns : List Move) × Path I S g l ns
  path-edge g k l ms p e =
      let w : Within I S (suc (length ms)) g l = inr (k, e.possible.in_taker, (path-within g k ms p, e)) in
      let q = within-path (suc (length ms)) g l w in
      (q.0, q.1)

  -- what is within reach is within fewer moves than there are seats
  pub within-seats : (r g l : ℕ) → g < I.seats → Within I S r g l → (q : ℕ) × (q < I.seats) × Within I S q g l
  within-seats r g l lg w =
      let p = within-path r g l w in
      (length p.0, path-length g l p.0 lg p.1, path-within g l p.0 p.1)
