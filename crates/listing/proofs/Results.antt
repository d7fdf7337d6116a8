-- The lines that follow a mark.
use mathlib.Core.Path.{◌≡◌}
use mathlib.Core.List.{List, ◌++◌}
use Prim.Native.Nat.{ℕ}
use borrow.Author.Tests.{eq-eqb, ne_eqb}
use Rattle.model.specs.Marks.{Result}
use Rattle.lines.specs.Lines.{last_field, left_line, move_lines}
use Rattle.listing.specs.Listing.{result_lines}

module _ (r : Result) (moves : List ℕ) where
  pub result-left : r.mark ≡ 1 → result_lines r moves ≡ last_field "mark " r.mark ++ left_line r.window r.seat
  unfolding result_lines
  result-left e = rw (eq-eqb r.mark 1 e)

  pub result-moves : (r.mark ≡ 1 → ⊥) → result_lines r moves ≡ last_field "mark " r.mark ++ move_lines r.moves moves
  unfolding result_lines
  result-moves e = rw (ne_eqb r.mark 1 e)
