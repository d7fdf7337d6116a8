-- That the definitions are met: paper 01's book K7, two seats of weights 2 and 1 that share one credit, has a wasteful sheet and an
-- improvable one; with equal weights it has one that ties wrongly. (Settled and highest sheets exist by Theorems.antt.)
use mathlib.Core.Path.{◌≡◌, refl}
use mathlib.Core.List.{[], ◌∷◌}
use Prim.Native.Nat.{ℕ, ◌-◌, ◌<◌}
use native.Mathlib.Decide.{dec_le}
use native.Mathlib.Omega.{arith}
use Rattle.fairness.specs.Sums.{sum}
use Rattle.fairness.specs.Instance.{Instance, Proper, Sheet, Wasteful}
use Rattle.fairness.specs.Leximin.{table, insert, sort, levels, profile}
use Rattle.fairness.specs.Exchange.{Move, Path, improves, ties_wrongly, improves_at, ties_at, Improvable, Tied}
use Rattle.fairness.specs.Wanted.{Grants, WantsMore}
use Rattle.fairness.specs.Aiming.{only}
use Rattle.fairness.proofs.Decide.{sum-at}
use Rattle.fairness.proofs.WantedTotals.{only-capacity}

-- two seats of these weights and one window with one credit
abbrev two : (ℕ → ℕ) → Instance
two w =
    record {
      seats = 2;
      windows = 1;
      cap = λ i j. 1;
      supply = λ j. 1;
      weight = w;
      base = λ i. 0;
      position = λ i. i;
    }

abbrev K7 : Instance
K7 = two (λ i. 2 - i)

abbrev even : Instance
even = two (λ i. 1)

K7-proper : Proper K7
K7-proper = record { weights = λ i l. omega arith; positions = λ i k li lk e. e }

-- nothing given: the credit is left while seat 0 is below its cap
empty-wasteful : Wasteful K7 (λ i j. 0)
unfolding sum
empty-wasteful =
    record { window = 0; seat = 0; in_window = omega arith; in_seat = omega arith; left = omega arith; room = omega arith }

-- the credit at seat 0, or at seat 1
abbrev first : Sheet
first i j = 1 - i

abbrev second : Sheet
second i j = i

-- one move from seat l to seat g
abbrev move : ℕ → ℕ → Move
move l g = record { window = 0; giver = l; taker = g }

one-move : (w : ℕ → ℕ) (S : Sheet) (g l : ℕ) → g < 2 → l < 2 → (g ≡ l → ⊥) → 0 < S l 0 → S g 0 < 1 → Path (two w) S g l (move l g ∷ [])
one-move w S g l lg ll ne has room =
    record {
      linked = (refl, refl);
      possible = (record { in_window = omega arith; in_giver = ll; in_taker = lg; has = has; room = room }, tt);
      distinct = ((ne, tt), (tt, tt));
    }

-- at equal levels the smaller weight goes first
first-improvable : Improvable K7 first
unfolding improves_at improves sum
first-improvable =
    record {
      receiver = 1;
      donor = 0;
      moves = move 0 1 ∷ [];
      path = one-move (λ i. 2 - i) first 1 0 (omega arith) (omega arith) (λ e. omega arith) (omega arith) (omega arith);
      wanted = refl;
    }

-- and at equal weights the earlier seat
second-ties : Tied even second
unfolding ties_at ties_wrongly sum
second-ties =
    record {
      receiver = 0;
      donor = 1;
      moves = move 1 0 ∷ [];
      path = one-move (λ i. 1) second 0 1 (omega arith) (omega arith) (λ e. omega arith) (omega arith) (omega arith);
      wanted = refl;
    }

-- a profile: levels 1/2 and 0/1, lowest first
first-profile : profile K7 first ≡ ((0, 1) ∷ (1, 2) ∷ [])
unfolding profile levels table sort insert sum dec_le
first-profile = refl

-- ---- wanted totals

-- the one credit, wanted by seat 0
first-granted : Grants even (λ i. 1 - i) first
unfolding sum
first-granted =
    record { feasible = record { within = λ i j li lj. omega arith; fits = λ j lj. omega arith }; exact = λ i l. omega arith }

-- where both want it, the two want more than they can get, and neither does alone
both-want-more : WantsMore even (λ i. 1) (λ i. yes (tt {0}))
unfolding sum
both-want-more = omega arith

one-wants-no-more : (i : ℕ) → i < 2 → WantsMore even (λ k. 1) (only i) → ⊥
unfolding sum
one-wants-no-more i l more = omega (arith, only-capacity even (λ k. 1) i l, sum-at 2 i 1 l)
