-- Every starred example holds by the rules: one theorem over the table, computed from the definitions. Assumes nothing.
use mathlib.Core.Path.{◌≡◌, refl, sym, ap₂}
use mathlib.Core.Bool.{Bool, true, false, not, ◌&&◌, true≢false}
use mathlib.Core.List.{List, [], ◌∷◌}
use Prim.Native.Nat.{ℕ}
use lib.Dec.{eqb}
use borrow.Author.Tests.{eqb-true}
use Rattle.fairness.specs.Sums.{sum}
use Rattle.fairness.specs.Leximin.{table}
use Rattle.fairness.specs.Exchange.{All, improves, ties_wrongly, improves_at, ties_at}
use Rattle.model.specs.Lowest.{lowest, is_some}
use Rattle.model.specs.Book.{seats, place_from, weight_in, instance_of, is_sheet, is_lawful, all_zero, is_idle, totals}
use Rattle.model.specs.Search.{member, any, filter, can_take, grow, layer, reached, fewest, donor_of, first_receiver, search}
use Rattle.model.specs.Marks.{seat_below, wasted_window, mark_of, result_of}
use Rattle.model.specs.Examples.{Example, Holds, examples}
use Rattle.model.proofs.Tests.{and-true, true-not-false}
use Rattle.model.proofs.Books.{none_passes, sheet-test, lawful-test, idle-test}

same_list : List ℕ → List ℕ → Bool
same_list [] [] = true
same_list [] (y ∷ ys) = false
same_list (x ∷ xs) [] = false
same_list (x ∷ xs) (y ∷ ys) = eqb x y && same_list xs ys

same-list : (xs ys : List ℕ) → same_list xs ys ≡ true → xs ≡ ys
unfolding same_list
same-list [] [] e = refl
same-list [] (y ∷ ys) e = absurd (true≢false (sym e))
same-list (x ∷ xs) [] e = absurd (true≢false (sym e))
same-list (x ∷ xs) (y ∷ ys) e =
    let both = (and-true (eqb x y) (same_list xs ys)).0 e in
    ap₂ (λ z zs. z ∷ zs) (eqb-true x y both.0) (same-list xs ys both.1)

-- the test of an example, and of all of a table
holds : Example → Bool
holds e =
    is_sheet e.book e.sheet
    && (is_lawful e.book e.sheet
    && (eqb (result_of (mark_of e.book e.sheet)).mark e.mark
    && (eqb (result_of (mark_of e.book e.sheet)).moves e.moves
    && (same_list (totals e.book e.sheet) e.sums
    && not (is_some (lowest (seats e.book) (is_idle e.book)))))))

all_hold : List Example → Bool
all_hold [] = true
all_hold (e ∷ es) = holds e && all_hold es

holds-true : (e : Example) → holds e ≡ true → Holds e
unfolding holds
holds-true e h =
    let shape = (and-true _ _).0 h in
    let law = (and-true _ _).0 shape.1 in
    let mark = (and-true _ _).0 law.1 in
    let moves = (and-true _ _).0 mark.1 in
    let sums = (and-true _ _).0 moves.1 in
    record {
      a_sheet = (sheet-test e.book e.sheet).0 shape.0;
      lawful = (lawful-test e.book e.sheet).0 law.0;
      marked = eqb-true _ _ mark.0;
      counted = eqb-true _ _ moves.0;
      summed = same-list _ _ sums.0;
      none_idle = λ i li h. true-not-false _ ((idle-test e.book i).1 h) ((none_passes (seats e.book) _).0 sums.1 i li);
    }

all_hold_lem : (es : List Example) → all_hold es ≡ true → All Holds es
unfolding all_hold
all_hold_lem [] h = tt
all_hold_lem (e ∷ es) h = let both = (and-true _ _).0 h in (holds-true e both.0, all_hold_lem es both.1)

-- the marks, numbers of moves and totals of K1 to K10 and K12 are those that paper 01 gives; those behind them follow from paper 02
pub starred-examples-hold : All Holds examples
unfolding same_list holds all_hold is_sheet is_lawful all_zero is_idle totals place_from weight_in instance_of lowest sum table
    mark_of wasted_window seat_below search first_receiver donor_of fewest reached layer grow can_take filter any member
    improves_at improves ties_at ties_wrongly
starred-examples-hold = all_hold_lem examples refl
