-- The search rule: which exchange path the marker reports. Sets of seats grow by layers, so all of it computes.
use Rattle.std.specs.Prelude.{◌≡◌, Bool, true, false, ◌&&◌, ◌||◌, List, [], ◌∷◌, ℕ, zero, suc, ◌≤◌, ◌<◌, eqb, ltb, length}
use Rattle.std.specs.Prelude.{Option, Some}
use Rattle.fairness.specs.Leximin.{table}
use Rattle.fairness.specs.Exchange.{Move, Path}
use Rattle.model.specs.Lowest.{lowest, is_some, and_then}
use Rattle.model.specs.Book.{Book, Grid, cell, seats, windows, instance_of}

-- a path that a search reports: its receiver (gainer), its donor (loser) and its number of moves
pub record Found : Type 0 where
  pub receiver : ℕ
  pub donor : ℕ
  pub moves : ℕ

-- ---- sets of seats as lists

unfoldable pub member : ℕ → List ℕ → Bool
member x [] = false
member x (y ∷ ys) = eqb x y || member x ys

unfoldable pub any : (ℕ → Bool) → List ℕ → Bool
any test [] = false
any test (x ∷ xs) = test x || any test xs

-- x in front, where the test holds
abbrev pub cons_if : Bool → ℕ → List ℕ → List ℕ
cons_if true x xs = x ∷ xs
cons_if false x xs = xs

unfoldable pub filter : (ℕ → Bool) → List ℕ → List ℕ
filter test [] = []
filter test (x ∷ xs) = cons_if (test x) x (filter test xs)

-- ---- the seats that exchange paths reach

module _ (b : Book) (s : Grid) where
  -- a move from seat k to seat i is possible: in some window i is below its cap and k has a credit
  unfoldable pub can_take : ℕ → ℕ → Bool
  can_take i k = is_some (lowest (windows b) (λ j. ltb (cell s i j) (cell b.caps i j) && ltb 0 (cell s k j)))

  -- the set, and every seat from which a member can take
  unfoldable pub grow : List ℕ → List ℕ
  grow set = filter (λ l. member l set || any (λ k. can_take k l) set) (table (seats b) (λ i. i))

  -- the seats that paths of at most r moves reach from g
  unfoldable pub layer : ℕ → ℕ → List ℕ
  layer g zero = g ∷ []
  layer g (suc r) = grow (layer g r)

  -- the set reached: no seat comes twice on a path, so it has fewer moves than there are seats
  unfoldable pub reached : ℕ → List ℕ
  reached g = layer g (seats b)

  -- the fewest moves of a path from g to l
  unfoldable pub fewest : ℕ → ℕ → Option ℕ
  fewest g l = lowest (seats b) (λ r. member l (layer g r))

  -- ---- the search, for a test of receiver and donor

  module _ (test : ℕ → ℕ → Bool) where
    -- the donor: the lowest seat of the set reached that passes
    unfoldable pub donor_of : ℕ → Option ℕ
    donor_of g = lowest (seats b) (λ l. member l (reached g) && test g l)

    -- the receiver: the first from seat 0 up that has a donor
    unfoldable pub first_receiver : Option ℕ
    first_receiver = lowest (seats b) (λ g. is_some (donor_of g))

    -- the first receiver, its donor, and the fewest moves between the two
    unfoldable pub search : Option Found
    search =
        and_then first_receiver
        (λ g. and_then (donor_of g) (λ l. and_then (fewest g l) (λ r. Some (record { receiver = g; donor = l; moves = r }))))

-- ---- what the search stands for: paper 01's rule in words, without layers (the two are proved equal in proofs/Meaning.antt)

module _ (b : Book) (s : Grid) where
  -- an exchange path on the sheet as handed in
  abbrev pub PathOn : ℕ → ℕ → List Move → Type 0
  PathOn g l ms = Path (instance_of b) (cell s) g l ms

  -- some path from g to l has r moves, and none has fewer
  pub record Shortest (g l r : ℕ) : Type 0 where
    pub moves : List Move
    pub path : PathOn g l moves
    pub count : length moves ≡ r
    pub least : (ms : List Move) → PathOn g l ms → r ≤ length ms

  -- the first receiver that has a path which passes the test, its lowest donor, and the fewest moves between the two
  pub record Picked (test : ℕ → ℕ → Bool) (f : Found) : Type 0 where
    pub seat : f.receiver < seats b
    pub passes : test f.receiver f.donor ≡ true
    pub shortest : Shortest f.receiver f.donor f.moves
    pub lowest_donor : (l : ℕ) (ms : List Move) → l < f.donor → PathOn f.receiver l ms → test f.receiver l ≡ false
    pub first_receiver : (g l : ℕ) (ms : List Move) → g < f.receiver → PathOn g l ms → test g l ≡ false
