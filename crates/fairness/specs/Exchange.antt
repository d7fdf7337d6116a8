-- Moves and exchange paths, which of them improve or tie wrongly, and settled sheets.
use Rattle.std.specs.Prelude.{◌≡◌, Bool, true, ◌&&◌, ◌||◌, List, [], ◌∷◌, map, ℕ, ◌+◌, ◌-◌, ◌*◌, ◌<◌, eqb, ltb}
use Rattle.std.proofs.Math.Decide.{ℕ_discrete}
use Rattle.fairness.specs.Sums.{keep}
use Rattle.fairness.specs.Instance.{Instance, Sheet, Feasible, Wasteful, height}

-- ---- moves

-- one credit in a window, from a giver to a taker
pub record Move : Type 0 where
  pub window : ℕ
  pub giver : ℕ
  pub taker : ℕ

-- 1 at i, and 0 elsewhere
abbrev pub one : ℕ → ℕ → ℕ
one i a = keep (ℕ_discrete a i) 1

-- 1 at seat i in window j, and 0 elsewhere
abbrev pub hit : ℕ → ℕ → ℕ → ℕ → ℕ
hit i j a b = keep (ℕ_discrete a i) (one j b)

-- the sheet after a move
unfoldable pub play : Sheet → Move → Sheet
play S m a b = S a b + hit m.taker m.window a b - hit m.giver m.window a b

-- the sheet after moves, played in order
abbrev pub play_all : Sheet → List Move → Sheet
play_all S [] = S
play_all S (m ∷ ms) = play_all (play S m) ms

module _ (I : Instance) where
  -- the giver has a credit there, and the taker is below its cap there
  pub record Possible (S : Sheet) (m : Move) : Type 0 where
    pub in_window : m.window < I.windows
    pub in_giver : m.giver < I.seats
    pub in_taker : m.taker < I.seats
    pub has : 0 < S m.giver m.window
    pub room : S m.taker m.window < I.cap m.taker m.window

  -- each move is possible on the sheet that the moves before it left
  abbrev pub PlaysOut : Sheet → List Move → Type 0
  PlaysOut S [] = Unit {0}
  PlaysOut S (m ∷ ms) = Possible S m × PlaysOut (play S m) ms

-- ---- paths

-- every element has P
abbrev pub All : {A : Type 0} → (A → Type 0) → List A → Type 0
All P [] = Unit {0}
All P (x ∷ xs) = P x × All P xs

-- no element twice
abbrev pub Distinct : List ℕ → Type 0
Distinct [] = Unit {0}
Distinct (x ∷ xs) = All (λ y. x ≡ y → ⊥) xs × Distinct xs

-- the first move's taker is g, each giver is the next move's taker, the last giver is l
abbrev pub Linked : ℕ → List Move → ℕ → Type 0
Linked g [] l = g ≡ l
Linked g (m ∷ ms) l = (m.taker ≡ g) × Linked m.giver ms l

-- an exchange path, paper 01's chain: from a receiver (gainer) g to a donor (loser) l by moves that are possible on the sheet as
-- it is, no seat twice. No moves at all lead from a seat to itself.
pub record Path (I : Instance) (S : Sheet) (g l : ℕ) (ms : List Move) : Type 0 where
  pub linked : Linked g ms l
  pub possible : All (Possible I S) ms
  pub distinct : Distinct (g ∷ map (λ (m : Move). m.giver) ms)

-- ---- which paths are wanted

-- a path improves: (receiver's height) × (donor's weight) is less than (donor's height − 1) × (receiver's weight), or equal with
-- the receiver's weight the smaller
unfoldable pub improves : ℕ → ℕ → ℕ → ℕ → Bool
improves height weight donor_height donor_weight =
    ltb (height * donor_weight) ((donor_height - 1) * weight)
    || (eqb (height * donor_weight) ((donor_height - 1) * weight) && ltb weight donor_weight)

-- a path ties wrongly: weights are equal, the donor's height is one above the receiver's, and the receiver is earlier in the
-- order of the seat rule
unfoldable pub ties_wrongly : ℕ → ℕ → ℕ → ℕ → ℕ → ℕ → Bool
ties_wrongly height weight position donor_height donor_weight donor_position =
    eqb weight donor_weight && (eqb donor_height (height + 1) && ltb position donor_position)

module _ (I : Instance) (S : Sheet) where
  -- the two tests, of a receiver and a donor
  unfoldable pub improves_at : ℕ → ℕ → Bool
  improves_at g l = improves (height I S g) (I.weight g) (height I S l) (I.weight l)

  unfoldable pub ties_at : ℕ → ℕ → Bool
  ties_at g l = ties_wrongly (height I S g) (I.weight g) (I.position g) (height I S l) (I.weight l) (I.position l)

  -- some path leads from a receiver to a donor that pass a test
  pub record Exchange (test : ℕ → ℕ → Bool) : Type 0 where
    pub receiver : ℕ
    pub donor : ℕ
    pub moves : List Move
    pub path : Path I S receiver donor moves
    pub wanted : test receiver donor ≡ true

  abbrev pub Improvable : Type 0
  Improvable = Exchange improves_at

  abbrev pub Tied : Type 0
  Tied = Exchange ties_at

  -- feasible, not wasteful, and no path improves or ties wrongly
  pub record Settled : Type 0 where
    pub feasible : Feasible I S
    pub full : Wasteful I S → ⊥
    pub fair : Improvable → ⊥
    pub ordered : Tied → ⊥
