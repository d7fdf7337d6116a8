-- Lines from the front of an array are those of a slice of it; and lines of the same numbers are the same.
use Rattle.std.proofs.Common.{◌≡◌, ℕ, zero, suc, ◌+◌, ◌*◌, ◌/◌, ◌<◌, ◌≤◌, List, ◌++◌, length, get_or, take}
use Rattle.std.proofs.Common.{refl, ap, ap₂, ◌∙◌, arith, length-take-le}
use Rattle.std.proofs.lemmas.List.{get_or-take}
use Rattle.lines.specs.Lines.{window_line, seat_line, move_line, lines, window_lines, seat_lines, move_lines}

pub lines_same : (f g : ℕ → List ℕ) (n : ℕ) → ((j : ℕ) → j < n → f j ≡ g j) → lines n f ≡ lines n g
unfolding lines
lines_same f g zero h = refl
lines_same f g (suc n) h = ap₂ (λ (xs ys : List ℕ). xs ++ ys) (lines_same f g n (λ j l. h j (omega arith))) (h n (omega arith))

module _ (m : ℕ) (xs ys : List ℕ) (inside : m ≤ length xs) where
  pub windows_front : window_lines (length (take m xs)) (take m xs) (take m ys) ≡ window_lines m xs ys
  unfolding window_lines
  windows_front =
      rw (length-take-le m xs inside)
      (lines_same _ _ m (λ j l. ap₂ (window_line j) (get_or-take m xs j 0 l) (get_or-take m ys j 0 l)))

  pub seats_front : seat_lines (length (take m xs)) (take m xs) (take m ys) ≡ seat_lines m xs ys
  unfolding seat_lines
  seats_front =
      rw (length-take-le m xs inside)
      (lines_same _ _ m (λ j l. ap₂ (seat_line j) (get_or-take m xs j 0 l) (get_or-take m ys j 0 l)))

-- three bytes of a buffer for each move
pub moves_front : (n : ℕ) (moves : List ℕ) → n * 3 ≤ length moves →
    move_lines (length (take (n * 3) moves) / 3) (take (n * 3) moves) ≡ move_lines n moves
unfolding move_lines
moves_front n moves inside =
    let count : length (take (n * 3) moves) / 3 ≡ n = omega (arith, length-take-le (n * 3) moves inside) in
    let at = λ (j : ℕ) (l : j < n * 3). get_or-take (n * 3) moves j 0 l in
    rw count (lines_same _ _ n (λ k l. rw (at (k * 3) (omega arith), at (k * 3 + 1) (omega arith), at (k * 3 + 2) (omega arith)) refl))
