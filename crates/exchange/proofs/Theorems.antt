-- What callers cite: the search in memory finds what the rules on lists say. Assumes nothing.
use mathlib.Core.Path.{◌≡◌}
use mathlib.Core.Bool.{Bool, false}
use Rattle.std.specs.Prelude.{None, Some}
use Prim.Native.Nat.{ℕ}
use native.Mathlib.Omega.{arith}
use lib.ListN.{length}
use Rattle.fairness.specs.Exchange.{improves_at, ties_at, Improvable, Tied}
use Rattle.fairness.proofs.Theorems.{improves-apart, ties-apart}
use Rattle.model.specs.Book.{Book, Grid, cell, instance_of}
use Rattle.model.specs.Search.{Found, search, Picked}
use Rattle.model.proofs.Meaning.{search-some, search-none}
use Rattle.model.proofs.Tests.{not-true}
use Rattle.paths.specs.declared.Path.{Path}
use Rattle.paths.specs.Paths.{moves_of}
use Rattle.receiver.specs.declared.Kind.{Kind}
use Rattle.receiver.specs.declared.Kind.TheVariants.{Improving, WronglyTied}
use Rattle.exchange.specs.Paths.{Chosen, Answered}

-- what the search on lists finds
abbrev pub found_by : Path → Found
found_by x = record { receiver = x.receiver; donor = x.donor; moves = x.count }

module _ (b : Book) (s : Grid) where
  abbrev improving : ℕ → ℕ → Bool
  improving = improves_at (instance_of b) (cell s)

  abbrev tying : ℕ → ℕ → Bool
  tying = ties_at (instance_of b) (cell s)

  -- the answers of the search on lists that go with each kind, and with none
  abbrev pub OnLists : Kind → Found → Type 0
  OnLists Improving f = search b s improving ≡ Some f
  OnLists WronglyTied f = (search b s improving ≡ None) × (search b s tying ≡ Some f)

  improving-apart : (g : ℕ) → improving g g ≡ false
  improving-apart g = not-true _ (improves-apart (instance_of b) (cell s) g)

  tying-apart : (g : ℕ) → tying g g ≡ false
  tying-apart g = not-true _ (ties-apart (instance_of b) (cell s) g)

  module _ (x : Path) (counted : length (moves_of x) ≡ x.count) where
    picked : (test : ℕ → ℕ → Bool) → Chosen (instance_of b) (cell s) test x.receiver x.donor (moves_of x) → Picked b s test (found_by x)
    unfolding instance_of
    picked test c =
        record {
          seat = c.seat;
          passes = c.passes;
          shortest = record {
            moves = moves_of x;
            path = c.path;
            count = counted;
            least = λ ms p. omega (arith, c.least ms p);
          };
          lowest_donor = c.lowest_donor;
          first_receiver = c.first_receiver;
        }

    pub on-lists : (k : Kind) → Answered (instance_of b) (cell s) k x.receiver x.donor (moves_of x) → OnLists k (found_by x)
    on-lists Improving a = (search-some b s improving improving-apart _).1 (picked improving a)
    on-lists WronglyTied a =
        ((search-none b s improving improving-apart).1 a.0, (search-some b s tying tying-apart _).1 (picked tying a.1))

  abbrev pub NoneOnLists : Type 0
  NoneOnLists = (search b s improving ≡ None) × (search b s tying ≡ None)

  pub none-on-lists : (Improvable (instance_of b) (cell s) → ⊥) × (Tied (instance_of b) (cell s) → ⊥) → NoneOnLists
  none-on-lists a = ((search-none b s improving improving-apart).1 a.0, (search-none b s tying tying-apart).1 a.1)
