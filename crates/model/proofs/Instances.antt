-- A mark goes by the instance of a book alone, so where two books make one instance every sheet has one mark. Assumes nothing.
use mathlib.Core.Path.{◌≡◌, refl, sym, ◌∙◌, ap, fun_ext}
use mathlib.Core.Bool.{Bool, ◌&&◌, ◌||◌}
use mathlib.Core.List.{List, [], ◌∷◌}
use Rattle.std.specs.Prelude.{Option, Some}
use Prim.Native.Nat.{ℕ, zero, suc}
use lib.Dec.{ltb}
use Rattle.fairness.specs.Instance.{Instance, placed}
use Rattle.fairness.specs.Leximin.{table}
use Rattle.fairness.specs.Exchange.{improves_at, ties_at}
use Rattle.model.specs.Lowest.{lowest, is_some, or_else, and_then, value_or}
use Rattle.model.specs.Book.{Book, Grid, cell, seats, instance_of}
use Rattle.model.specs.Search.{Found, member, any, filter, can_take, grow, layer, reached, fewest, donor_of, first_receiver, search}
use Rattle.model.specs.Marks.{Mark, wasteful, improvable, tied, settled, seat_below, wasted_window, mark_of}

-- the rules of the search by the sets that paths reach among n seats
abbrev find_in : ℕ → (ℕ → ℕ → List ℕ) → (ℕ → ℕ → Bool) → Option Found
find_in n reach test =
    let donor : ℕ → Option ℕ = λ g. lowest n (λ l. member l (reach g n) && test g l) in
    and_then (lowest n (λ g. is_some (donor g)))
    (λ g. and_then (donor g)
    (λ l. and_then (lowest n (λ r. member l (reach g r))) (λ r. Some (record { receiver = g; donor = l; moves = r }))))

module _ (I : Instance) (s : Grid) where
  -- the set, and every seat from which a member can take
  abbrev grow_by : List ℕ → List ℕ
  grow_by set =
      let takes : ℕ → ℕ → Bool =
      λ i k. is_some (lowest I.windows (λ j. ltb (cell s i j) (I.cap i j) && ltb 0 (cell s k j))) in
      filter (λ l. member l set || any (λ k. takes k l) set) (table I.seats (λ i. i))

  unfoldable reach_by : ℕ → ℕ → List ℕ
  reach_by g zero = g ∷ []
  reach_by g (suc r) = grow_by (reach_by g r)

  -- the rules of a mark by an instance and a search
  abbrev mark_with : ((ℕ → ℕ → Bool) → Option Found) → Mark
  mark_with find =
      let below : ℕ → Option ℕ = λ j. lowest I.seats (λ i. ltb (cell s i j) (I.cap i j)) in
      value_or
      (or_else (and_then (lowest I.windows (λ j. ltb (placed I (cell s) j) (I.supply j) && is_some (below j)))
      (λ j. and_then (below j) (λ i. Some (wasteful j i))))
      (or_else (and_then (find (improves_at I (cell s))) (λ f. Some (improvable f)))
      (and_then (find (ties_at I (cell s))) (λ f. Some (tied f)))))
      settled

module _ (b : Book) (s : Grid) where
  layer-is : (g r : ℕ) → layer b s g r ≡ reach_by (instance_of b) s g r
  unfolding layer grow can_take reach_by instance_of
  layer-is g zero = refl
  layer-is g (suc r) = ap (grow_by (instance_of b) s) (layer-is g r)

  search_is : (test : ℕ → ℕ → Bool) → search b s test ≡ find_in (seats b) (reach_by (instance_of b) s) test
  unfolding search first_receiver donor_of reached fewest
  search_is test = ap (λ (reach : ℕ → ℕ → List ℕ). find_in (seats b) reach test) (fun_ext (λ g. fun_ext (λ r. layer-is g r)))

  mark-is : mark_of b s ≡ mark_with (instance_of b) s (find_in (instance_of b).seats (reach_by (instance_of b) s))
  unfolding mark_of wasted_window seat_below instance_of
  mark-is = ap (mark_with (instance_of b) s) (fun_ext (λ test. search_is test))

pub same-mark : (b c : Book) → instance_of b ≡ instance_of c → (s : Grid) → mark_of b s ≡ mark_of c s
same-mark b c e s =
    mark-is b s ∙ ap (λ (I : Instance). mark_with I s (find_in I.seats (reach_by I s))) e ∙ sym (mark-is c s)
