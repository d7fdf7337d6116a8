-- The theorems on leximin-fair sheets, for others to cite. They are stated with the definitions of specs/ alone; the other files of this
-- folder work towards them.
use mathlib.Core.Path.{◌≡◌}
use mathlib.Core.Bool.{Bool, true}
use mathlib.Core.Logic.{◌⊎◌, inl, inr, ◌↔◌}
use mathlib.Core.List.{List, ◌∷◌}
use Prim.Native.Nat.{ℕ, suc, min, ◌+◌, ◌≤◌, ◌<◌}
use native.Mathlib.Nat.{lt_trans}
use native.Mathlib.Omega.{arith}
use lib.ListN.{length}
use Rattle.fairness.specs.Sums.{sum, over}
use Rattle.fairness.specs.Instance.{Instance, Proper, Sheet, Feasible, Wasteful, total, height, group_capacity}
use Rattle.fairness.specs.Leximin.{SameProfile, Better, Highest}
use Rattle.fairness.specs.Exchange.{Move, one, hit, play, play_all, PlaysOut, Path}
use Rattle.fairness.specs.Exchange.{improves_at, ties_at, Exchange, Improvable, Settled}
use Rattle.fairness.specs.Layers.{Edge, Within}
use Rattle.fairness.specs.Cuts.{Closed, Target, count}
use Rattle.fairness.proofs.Walks
use Rattle.fairness.proofs.Plays
use Rattle.fairness.proofs.Cut
use Rattle.fairness.proofs.Threshold
use Rattle.fairness.proofs.Wanted
use Rattle.fairness.proofs.Profiles
use Rattle.fairness.proofs.Optimal
use Rattle.fairness.proofs.Progress
use Rattle.fairness.proofs.Settle
use Rattle.fairness.proofs.Certificate
use Rattle.fairness.proofs.Measure.{measure-less}
pub use Rattle.fairness.proofs.Measure.{measure}

-- ---- cuts: what a group of seats can hold

module _ (I : Instance) (P : ℕ → Type 0) (in? : (i : ℕ) → Dec (P i)) where
  -- no feasible sheet gives a group of seats more than its capacity
  pub group-capacity-bounds : (T : Sheet) → Feasible I T → over in? I.seats (total I T) ≤ group_capacity I in?
  group-capacity-bounds = Cut.capacity-bounds I P in?

  -- a feasible sheet that wastes nothing gives a closed group all of its capacity
  pub group-capacity-reached : (S : Sheet) → Feasible I S → (Wasteful I S → ⊥) → Closed I S P →
      over in? I.seats (total I S) ≡ group_capacity I in?
  group-capacity-reached S feasible full closed = Cut.capacity-reached I P in? S full closed feasible

  -- so no feasible sheet gives the group more
  pub closed-group-most : (S T : Sheet) → (Wasteful I S → ⊥) → Closed I S P → Feasible I T →
      over in? I.seats (total I T) ≤ over in? I.seats (total I S)
  closed-group-most S T full closed = Cut.cut-total I P in? S full closed T

-- ---- thresholds: of which credits a sheet has the most

module _ (I : Instance) (S T : Sheet) (full : Wasteful I S → ⊥) (feasible : Feasible I T) where
  -- where no path of S leads from a receiver whose next credit is in the target to a donor whose last credit is not, no feasible sheet
  -- has more of the target's credits than S
  pub threshold : (G : Target) →
      ((g l k : ℕ) (ms : List Move) → g < I.seats → l < I.seats → Path I S g l ms →
      G.In g (height I S g) → height I S l ≡ suc k → G.In l k) →
      sum I.seats (λ i. count G i (height I T i)) ≤ sum I.seats (λ i. count G i (height I S i))
  threshold = Threshold.threshold I S T full feasible

  -- the same with a cutoff for each seat: where no path leads from below the receiver's cutoff to above the donor's, no feasible sheet
  -- has more below the cutoffs than S
  pub threshold-cutoffs : (c : ℕ → ℕ) →
      ((g l : ℕ) (ms : List Move) → g < I.seats → l < I.seats → Path I S g l ms →
      height I S g < c g → c l < height I S l → ⊥) →
      sum I.seats (λ i. min (height I T i) (c i)) ≤ sum I.seats (λ i. min (height I S i) (c i))
  threshold-cutoffs = Threshold.threshold-cutoffs I S T full feasible

-- ---- the leximin order of sheets

module _ (I : Instance) (S T : Sheet) where
  -- of two sheets the profiles are the same, or one is higher
  pub same-higher-lower : SameProfile I S T ⊎ (Better I S T ⊎ Better I T S)
  same-higher-lower = Profiles.same-higher-lower I S T

  -- and no two of the three
  pub same-not-higher : SameProfile I S T → Better I S T → ⊥
  same-not-higher = Profiles.same-not-better I S T

  pub higher-not-lower : Better I S T → Better I T S → ⊥
  higher-not-lower = Profiles.better-not-worse I S T

  pub same-symmetric : SameProfile I S T → SameProfile I T S
  same-symmetric = Profiles.same-symmetric I S T

pub same-not-lower : (I : Instance) (S T : Sheet) → SameProfile I S T → Better I T S → ⊥
same-not-lower I S T s = same-not-higher I T S (same-symmetric I S T s)

pub same-transitive : (I : Instance) → Proper I → (S T U : Sheet) → SameProfile I S T → SameProfile I T U → SameProfile I S U
same-transitive = Profiles.same-transitive

-- higher than higher is higher
pub higher-transitive : (I : Instance) → Proper I → (S T U : Sheet) → Better I S T → Better I T U → Better I S U
higher-transitive I proper S T U b c =
    let N : ℕ = Profiles.bound I S + Profiles.bound I T + Profiles.bound I U in
    Profiles.potential-Better I proper N S U (omega arith)
    (lt_trans (Profiles.Better-potential I proper N T U (omega arith) c) (Profiles.Better-potential I proper N S T (omega arith) b))

-- ---- exchange paths, played

module _ (I : Instance) (S : Sheet) (g l : ℕ) where
  -- the moves of a path, played in order, are each possible at their turn
  pub path-plays : (ms : List Move) → Path I S g l ms → PlaysOut I S ms
  path-plays = Plays.path-plays I S g l

  -- for a loop that plays one move after the other: after the first move the rest is a path
  pub path-rest : (m : Move) (ms : List Move) → Path I S g l (m ∷ ms) → Path I (play S m) m.giver l ms
  path-rest = Plays.path-rest I S g l

  module _ (ms : List Move) (path : Path I S g l ms) where
    -- a feasible sheet stays feasible
    pub path-feasible : Feasible I S → Feasible I (play_all S ms)
    path-feasible = Plays.plays-feasible I S ms (path-plays ms path)

    -- a sheet that wastes nothing goes on to waste nothing
    pub path-full : (Wasteful I S → ⊥) → Wasteful I (play_all S ms) → ⊥
    path-full full w = full (Plays.plays-wasteful I S ms (path-plays ms path) w)

    -- the receiver has one more, the donor one less, and everybody else the same
    pub path-totals : (a : ℕ) → total I (play_all S ms) a + one l a ≡ total I S a + one g a
    path-totals = Plays.plays-total I S g l ms (path-plays ms path) path.linked

-- ---- better sheets

module _ (I : Instance) (proper : Proper I) (S : Sheet) (feasible : Feasible I S) where
  -- an improving path leads to a feasible sheet with a higher profile
  pub path-improves : (g l : ℕ) (ms : List Move) → Path I S g l ms → improves_at I S g l ≡ true →
      Feasible I (play_all S ms) × Better I S (play_all S ms)
  path-improves g l ms path t = (
    path-feasible I S g l ms path feasible,
    Progress.exchange-Better I proper S (play_all S ms) g l (Wanted.improves-wanted I S g l ms path t)
        (λ a b. path-totals I S g l ms path a),
  )

  -- so an improvable sheet is not the best
  pub improvable-improves : Improvable I S → (T : Sheet) × Feasible I T × Better I S T
  improvable-improves e =
      let p = path-improves e.receiver e.donor e.moves e.path e.wanted in
      (play_all S e.moves, p.0, p.1)

  -- one more credit where some are left leads to a feasible sheet with a higher profile
  pub wasteful-improves : (w : Wasteful I S) →
      Feasible I (λ a b. S a b + hit w.seat w.window a b) × Better I S (λ a b. S a b + hit w.seat w.window a b)
  wasteful-improves w = (Progress.more-feasible I proper S w feasible, Progress.more-Better I proper S w)

-- ---- highest sheets

module _ (I : Instance) (proper : Proper I) where
  -- a feasible sheet that wastes nothing and has no improving path has the highest profile
  pub unimprovable-highest : (S : Sheet) → Feasible I S → (Wasteful I S → ⊥) → (Improvable I S → ⊥) → Highest I S
  unimprovable-highest = Optimal.unimprovable-highest I proper

  -- nothing is better than a highest sheet
  pub highest-most : (S T : Sheet) → Highest I S → Feasible I T → Better I S T → ⊥
  highest-most S T h f b = go (h.most T f)
    where
      go : SameProfile I T S ⊎ Better I T S → ⊥
      go (inl s) = same-not-lower I T S s b
      go (inr c) = higher-not-lower I S T b c

  -- a feasible sheet has the highest profile exactly when it wastes nothing and no path improves
  pub highest-iff : (S : Sheet) → Feasible I S → Highest I S ↔ ((Wasteful I S → ⊥) × (Improvable I S → ⊥))
  highest-iff S feasible = (
    λ h. (
      λ w. let p = wasteful-improves I proper S feasible w in highest-most S _ h p.0 p.1,
      λ e. let p = improvable-improves I proper S feasible e in highest-most S p.0 h p.1 p.2,
    ),
    λ h. unimprovable-highest S feasible h.0 h.1,
  )

  -- two highest sheets have the same profile
  pub highest-same : (S T : Sheet) → Highest I S → Highest I T → SameProfile I S T
  highest-same S T s t = go (t.most S s.feasible)
    where
      go : SameProfile I S T ⊎ Better I S T → SameProfile I S T
      go (inl e) = e
      go (inr b) = absurd (highest-most S T s t.feasible b)

  -- and a feasible sheet with a highest sheet's profile is highest
  pub same-highest : (S T : Sheet) → Feasible I S → SameProfile I S T → Highest I T → Highest I S
  same-highest S T feasible same h = record { feasible = feasible; most = λ U f. go U f (same-higher-lower I U S) }
    where
      go : (U : Sheet) → Feasible I U → SameProfile I U S ⊎ (Better I U S ⊎ Better I S U) → SameProfile I U S ⊎ Better I U S
      go U f (inl e) = inl e
      go U f (inr (inl b)) = inr b
      go U f (inr (inr b)) = absurd (at (h.most U f))
        where
          at : SameProfile I U T ⊎ Better I U T → ⊥
          at (inl e) = same-not-higher I S U (same-transitive I proper S T U same (same-symmetric I U T e)) b
          at (inr c) = same-not-higher I S T same (higher-transitive I proper S U T b c)

  -- ---- settled sheets

  -- a settled sheet has the highest profile
  pub settled-highest : (S : Sheet) → Settled I S → Highest I S
  settled-highest S s = unimprovable-highest S s.feasible s.full s.fair

  -- there is a settled sheet, so there is a highest one
  pub settled-exists : (S : Sheet) × Settled I S
  settled-exists = Settle.settled-exists I proper

  pub highest_exists : (S : Sheet) × Highest I S
  highest_exists = (settled-exists.0, settled-highest settled-exists.0 settled-exists.1)

  -- two settled sheets give every seat the same total
  pub settled-totals : (S T : Sheet) → Settled I S → Settled I T → (i : ℕ) → i < I.seats → total I S i ≡ total I T i
  settled-totals = Optimal.settled-totals I proper

  -- ---- the end of a planner's loop: proofs/Measure.antt's measure falls

  -- with each exchange along a path that improves or ties wrongly, by whichever sheet the receiver has one more, the donor one less
  -- and everybody else the same
  pub exchange-measure : (S T : Sheet) (g l : ℕ) (ms : List Move) → Feasible I S → Feasible I T →
      Path I S g l ms → (improves_at I S g l ≡ true) ⊎ (ties_at I S g l ≡ true) →
      ((a : ℕ) → a < I.seats → total I T a + one l a ≡ total I S a + one g a) → measure I T < measure I S
  exchange-measure S T g l ms f f' path wanted totals =
      measure-less I proper S T g l (Wanted.exchange-wanted I S g l ms path wanted) totals f f'

  -- so it falls when the path is played
  pub path-measure : (S : Sheet) (g l : ℕ) (ms : List Move) → Feasible I S →
      Path I S g l ms → (improves_at I S g l ≡ true) ⊎ (ties_at I S g l ≡ true) → measure I (play_all S ms) < measure I S
  path-measure S g l ms f path wanted =
      exchange-measure S (play_all S ms) g l ms f (path-feasible I S g l ms path f) path wanted (λ a b. path-totals I S g l ms path a)

-- ---- layers: how a search finds paths

module _ (I : Instance) (S : Sheet) where
  -- the layers by one step, as a search adds them
  pub within_step : (r g l : ℕ) →
      Within I S (suc r) g l ↔ (Within I S r g l ⊎ ((k : ℕ) × (k < I.seats) × (Within I S r g k × Edge I S k l)))
  within_step r g l = (λ w. w, λ w. w)

  -- whether a layer has a seat is decidable
  pub within? : (r g l : ℕ) → Dec (Within I S r g l)
  within? = Walks.within? I S

  -- a path's donor is within as many moves as the path has
  pub path-within : (g l : ℕ) (ms : List Move) → Path I S g l ms → Within I S (length ms) g l
  path-within = Walks.path-within I S

  -- a seat within r moves has a path of at most r moves
  pub within-path : (r g l : ℕ) → Within I S r g l → (ms : List Move) × Path I S g l ms × (length ms ≤ r)
  within-path = Walks.within-path I S

  -- a seat in layer r and in no earlier one has a path of r moves
  pub shortest : (r g l : ℕ) → Within I S r g l → ((q : ℕ) → q < r → Within I S q g l → ⊥) →
      (ms : List Move) × Path I S g l ms × (length ms ≡ r)
  shortest = Walks.shortest I S

  -- a path has fewer moves than there are seats
  pub path-length : (g l : ℕ) (ms : List Move) → g < I.seats → Path I S g l ms → length ms < I.seats
  path-length = Walks.path-length I S

  -- so what is within reach at all is within fewer moves than there are seats
  pub within-seats : (r g l : ℕ) → g < I.seats → Within I S r g l → (q : ℕ) × (q < I.seats) × Within I S q g l
  within-seats = Walks.within-seats I S

  -- a layer has all that the earlier ones have
  pub within_more : (r q g l : ℕ) → r ≤ q → Within I S r g l → Within I S q g l
  within_more = Walks.within_more I S

  -- ---- that there is no exchange

  -- neither test wants an exchange of a seat with itself
  pub improves-apart : (g : ℕ) → improves_at I S g g ≡ true → ⊥
  improves-apart = Wanted.improves-apart I S

  pub ties-apart : (g : ℕ) → ties_at I S g g ≡ true → ⊥
  ties-apart = Wanted.ties-apart I S

  -- no path leaves a closed set
  pub closed-path : (P : ℕ → Type 0) → Closed I S P → (g l : ℕ) (ms : List Move) → P g → Path I S g l ms → P l
  closed-path = Certificate.closed-path I S

  -- where each receiver g has a closed set P g that has g, and no member of which is a donor that the test wants, no exchange is wanted
  pub closed-set-no-exchange : (test : ℕ → ℕ → Bool) → ((g : ℕ) → test g g ≡ true → ⊥) → (P : ℕ → ℕ → Type 0) →
      ((g : ℕ) → g < I.seats → P g g) → ((g : ℕ) → g < I.seats → Closed I S (P g)) →
      ((g l : ℕ) → g < I.seats → l < I.seats → P g l → test g l ≡ true → ⊥) → Exchange I S test → ⊥
  closed-set-no-exchange = Certificate.closed-set-no-exchange I S

  -- whether an exchange is wanted is decidable
  pub exchange? : (test : ℕ → ℕ → Bool) → ((g : ℕ) → test g g ≡ true → ⊥) → Dec (Exchange I S test)
  exchange? = Settle.exchange? I S
