-- A path that is walked back from the donor, layer by layer. Assumes nothing.
use mathlib.Core.Path.{◌≡◌, refl}
use mathlib.Core.Logic.{inl, inr}
use mathlib.Core.List.{List, [], ◌∷◌, map}
use Prim.Native.Nat.{ℕ, suc, min, ◌<◌, ◌≤◌}
use native.Mathlib.Decide.{ℕ_discrete}
use native.Mathlib.Omega.{arith}
use lib.ListN.{length, set, take, drop, length-take, length-set, drop_of_length-le}
use lib.Seq.{take-set-lt, drop-cons, get_or-set_same, drop-set-lt}
use Rattle.fairness.specs.Instance.{Instance}
use Rattle.fairness.specs.Exchange as fairness
use Rattle.sheet.specs.declared.Move.{Move}
use Rattle.sheet.specs.Sheets.{move_of}
use Rattle.masks.specs.Sets.{bit, In}
use Rattle.masks.proofs.Laws.{bit-lt}
use Rattle.reach.specs.declared.Graph.{Graph}
use Rattle.reach.specs.Graphs.{set_at, Collects, Leads, Takes, Reach}
use Rattle.paths.specs.Layers.{Meets, Layers, Fewest}
use Rattle.reach.proofs.Members.{at_small}
use Rattle.paths.specs.Steps.{Drawn, Gives, GivesBy}

-- moves that link g, in layer r, to l: each is shown by the graph, and each giver is one layer further out than its taker
abbrev pub Walk : Graph → List ℕ → ℕ → ℕ → List Move → ℕ → Type 0
Walk graph sets g r [] l = g ≡ l
Walk graph sets g r (m ∷ ms) l =
    (m.taker ≡ g)
    × (Leads (set_at graph.rooms m.taker) graph.holders m.giver m.window
    × (Fewest sets m.giver (suc r) × Walk graph sets m.giver (suc r) ms l))

-- ---- a move to a member of a set

module _ (graph : Graph) (giver windows : ℕ)
    (held : Collects (length graph.holders) (λ w. In giver (set_at graph.holders w)) windows) where
  -- who can take from the giver has room in one of the windows in which the giver has a credit
  pub gives-meets : (set k : ℕ) → In k set → Takes graph k giver → Meets set graph.rooms windows k
  gives-meets set k p t = record {
    member = p;
    shared = t.via;
    own = t.here.member;
    others = (held t.via).1 (at_small graph.holders t.via giver t.here.leads, t.here.leads);
  }

  -- and takes there
  pub meets-leads : (k both w : ℕ) → ((v : ℕ) → bit both v ≡ min (bit (set_at graph.rooms k) v) (bit windows v)) → In w both
      → Leads (set_at graph.rooms k) graph.holders giver w
  meets-leads k both w shared p = record {
    member = omega (arith, shared w, bit-lt (set_at graph.rooms k) w);
    leads = ((held w).0 (omega (arith, shared w, bit-lt windows w))).1;
  }

-- ---- one step back

module _ (graph : Graph) (sets : List ℕ) (g r giver : ℕ) (layers : Layers graph g sets) (f : Fewest sets giver (suc r)) where
  -- the giver was not in the layer before, so some seat of that layer can take from it
  pub back : Gives graph (set_at sets r) giver
  back = go ((layers (suc r) f.small giver).0 f.here)
    where
      go : Reach graph (suc r) g giver → Gives graph (set_at sets r) giver
      go (inl p) = absurd (omega (arith, (layers r (omega (arith, f.small)) giver).1 p, f.least r (omega arith)))
      go (inr (k, (p, q))) = (k, ((layers r (omega (arith, f.small)) k).1 p, q))

  -- and that seat is in no earlier layer
  pub back-fewest : (m : Move) → GivesBy graph (set_at sets r) giver m → Fewest sets m.taker r
  back-fewest m p = record {
    small = omega (arith, f.small);
    here = p.taker_in;
    least = λ q h. zero_or (bit-lt (set_at sets q) m.taker) (λ e.
        let small = f.small in
        let near = (layers q (omega arith) m.taker).0 e in
        let takes : Takes graph m.taker giver = record { via = m.window; here = p.shown } in
        let now = (layers (suc q) (omega arith) giver).1 (inr (m.taker, (near, takes))) in
        omega (arith, now, f.least (suc q) (omega arith)));
  }
    where
      zero_or : {n : ℕ} → n < 2 → (n ≡ 1 → ⊥) → n ≡ 0
      zero_or {n} h out = elim (ℕ_discrete n 1) [ yes e ↦ absurd (out e) | no d ↦ omega arith ]

-- ---- the array of moves

-- a move stored in front of those that are there
pub stored : (ms : List Move) (r n : ℕ) (m : Move) → r < n → n ≤ length ms
    → drop r (take n (set ms r m)) ≡ m ∷ drop (suc r) (take n ms)
stored ms r n m h l =
    let long : r < length (take n ms) = omega (arith, length-take n ms) in
    let long' : r < length (set (take n ms) r m) = omega (arith, length-set (take n ms) r m) in
    let after = drop-set-lt (suc r) (take n ms) r m (omega arith) in
    rw (take-set-lt n ms r m, drop-cons (set (take n ms) r m) r m, get_or-set_same (take n ms) r m m, after) refl

pub step_back : (graph : Graph) (sets : List ℕ) (moves : List Move) (donor count r giver : ℕ) (m : Move) → r < count
    → count ≤ length moves → GivesBy graph (set_at sets r) giver m → Fewest sets giver (suc r)
    → Walk graph sets giver (suc r) (drop (suc r) (take count moves)) donor
    → Walk graph sets m.taker r (drop r (take count (set moves r m))) donor
step_back graph sets moves donor count r giver m h l p f w =
    rw (stored moves r count m h l)
    (refl, (rw p.giver_is p.shown, (rw p.giver_is f, rw p.giver_is w)))

-- none are there at first
pub stored-none : (ms : List Move) (n : ℕ) → n ≤ length ms → drop n (take n ms) ≡ []
stored-none ms n h = drop_of_length-le (take n ms) {i = n} (omega (arith, length-take n ms))

-- ---- a walk is a path

module _ (I : Instance) (S : ℕ → ℕ → ℕ) (graph : Graph) (d : Drawn I S graph) (sets : List ℕ) where
  linked : (g r l : ℕ) (ms : List Move) → Walk graph sets g r ms l → fairness.Linked g (map move_of ms) l
  linked g r l [] w = w
  linked g r l (m ∷ ms) w = (w.0, linked m.giver (suc r) l ms w.1.1.1)

  possible : (g r l : ℕ) (ms : List Move) → Walk graph sets g r ms l →
      fairness.All (fairness.Possible I S) (map move_of ms)
  possible g r l [] w = tt
  possible g r l (m ∷ ms) w =
      ((d m.taker m.giver m.window).0 w.1.0, possible m.giver (suc r) l ms w.1.1.1)

  givers : List Move → List ℕ
  givers ms = map (λ (m : fairness.Move). m.giver) (map move_of ms)

  -- a seat of an earlier layer is not among the givers
  apart : (x q g r l : ℕ) (ms : List Move) → q ≤ r → Fewest sets x q → Walk graph sets g r ms l →
      fairness.All (λ y. x ≡ y → ⊥) (givers ms)
  unfolding givers
  apart x q g r l [] h f w = tt
  apart x q g r l (m ∷ ms) h f w = (
    λ e. omega (arith, rw e at f.here, w.1.1.0.least q (omega arith)),
    apart x q m.giver (suc r) l ms (omega arith) f w.1.1.1,
  )

  distinct : (g r l : ℕ) (ms : List Move) → Fewest sets g r → Walk graph sets g r ms l →
      fairness.Distinct (g ∷ givers ms)
  unfolding givers
  distinct g r l [] f w = (tt, tt)
  distinct g r l (m ∷ ms) f w = (apart g r g r l (m ∷ ms) (omega arith) f w, distinct m.giver (suc r) l ms w.1.1.0 w.1.1.1)

  walk-path : (g l : ℕ) (ms : List Move) → Fewest sets g 0 → Walk graph sets g 0 ms l →
      fairness.Path I S g l (map move_of ms)
  unfolding givers
  walk-path g l ms f w = record { linked = linked g 0 l ms w; possible = possible g 0 l ms w; distinct = distinct g 0 l ms f w }

  -- a walk back to layer 0 starts at the seat whose layers the sets are
  pub walked : (g l giver r : ℕ) (ms : List Move) → Layers graph g sets → r ≡ 0 → Fewest sets giver r
      → Walk graph sets giver r (drop r ms) l → fairness.Path I S g l (map move_of ms)
  walked g l giver r ms layers z f w =
      let first : Fewest sets giver 0 = rw z at f in
      let e : g ≡ giver = (layers 0 (omega arith) giver).0 first.here in
      rw e (walk-path giver l ms first (rw z at w))
