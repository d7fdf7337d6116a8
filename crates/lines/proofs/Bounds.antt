-- How long lines can be.
use Prim.Native.Nat.{ℕ, zero, suc, ◌+◌, ◌*◌, ◌^◌, ◌≤◌, ◌<◌}
use mathlib.Core.Path.{◌≡◌}
use mathlib.Core.List.{List}
use native.Mathlib.Omega.{arith}
use mir.Syntax.{Width}
use mir.Val.{Fits, bits}
use lib.ListN.{length, get_or, length-append}
use Rattle.text.specs.declared.Printer.{Printer}
use Rattle.text.specs.Printing.{Room}
use Rattle.std.specs.Prelude.{codes}
use Rattle.text.specs.Text.{decimal, four_digits, opening_time}
use Rattle.text.proofs.Digits.{decimal-le, four-length}
use Rattle.lines.specs.Lines.{labelled, labelled_last, opens, head_line, window_line, seat_line, left_line, move_line, refusal_line}
use Rattle.lines.specs.Lines.{lines, move_at, move_lines, refusal_max}

-- ---- lines, for numbers of so many digits at the most

labelled-le : (label : List ℕ) (k n : ℕ) → n < 10 ^ suc k → length (labelled label n) ≤ length label + suc k
unfolding labelled
labelled-le label k n h = omega (arith, length-append label (decimal n), decimal-le k n h)

pub last-le : (label : List ℕ) (k n : ℕ) → n < 10 ^ suc k → length (labelled_last label n) ≤ length label + suc (suc k)
unfolding labelled_last
last-le label k n h = omega (arith, length-append (labelled label n) (codes "\n"), labelled-le label k n h)

opens-length : (j : ℕ) → length (opens j) ≡ 11
unfolding opens
opens-length j = omega (arith, length-append (codes " opens ") (four_digits (opening_time j)), four-length (opening_time j))

pub head-le : (n m : ℕ) → n < 100 → m < 100 → length (head_line n m) ≤ 20
unfolding head_line
head-le n m hn hm = simp length-append (omega (arith, labelled-le (codes "seats ") 1 n hn, last-le (codes " windows ") 1 m hm))

pub window-le : (j supply placed : ℕ) → j < 24 → supply < 65536 → placed < 4294967296 → length (window_line j supply placed) ≤ 52
unfolding window_line
window-le j supply placed hj hs hp =
    let number = labelled-le (codes "window ") 1 (j + 1) (omega arith) in
    let supplied = labelled-le (codes " supply ") 4 supply (omega arith) in
    let given = last-le (codes " placed ") 9 placed (omega arith) in
    simp length-append (omega (arith, number, opens-length j, supplied, given))

pub seat-le : (i class total : ℕ) → i < 32 → class < 65536 → total < 4294967296 → length (seat_line i class total) ≤ 37
unfolding seat_line
seat-le i class total hi hc ht =
    let number = labelled-le (codes "seat ") 1 (i + 1) (omega arith) in
    let classed = labelled-le (codes " class ") 4 class (omega arith) in
    let summed = last-le (codes " total ") 9 total (omega arith) in
    simp length-append (omega (arith, number, classed, summed))

pub left_le : (window seat : ℕ) → window < 2 ^ 64 → seat < 2 ^ 64 → length (left_line window seat) ≤ 59
unfolding left_line
left_le window seat hw hs =
    let first = labelled-le (codes "left window ") 19 window (omega arith) in
    let second = last-le (codes " seat ") 19 seat (omega arith) in
    simp length-append (omega (arith, first, second))

move-le : (window giver taker : ℕ) → window < 256 → giver < 256 → taker < 256 → length (move_line window giver taker) ≤ 32
unfolding move_line
move-le window giver taker hw hg ht =
    let first = labelled-le (codes "move window ") 2 window (omega arith) in
    let second = labelled-le (codes " from ") 2 giver (omega arith) in
    let third = last-le (codes " to ") 2 taker (omega arith) in
    simp length-append (omega (arith, first, second, third))

pub refusal-le : (number offset : ℕ) → number < 2 ^ 64 → offset < 2 ^ 64 → length (refusal_line number offset) ≤ refusal_max
unfolding refusal_line
refusal-le number offset hn ho =
    let first = labelled-le (codes "refused ") 19 number (omega arith) in
    let second = last-le (codes " at ") 19 offset (omega arith) in
    simp length-append (omega (arith, first, second))

-- a buffer of that length has room for it
pub refusal_room : {p : Printer} (number offset : ℕ) → number < 2 ^ 64 → offset < 2 ^ 64 → p.at ≡ 0 → refusal_max ≤ length p.out.now →
    Room p (refusal_line number offset)
refusal_room number offset hn ho start long = record { fits = omega (arith, refusal-le number offset hn ho) }

-- ---- several

pub lines-at-most : (line : ℕ → List ℕ) (w n : ℕ) → ((j : ℕ) → j < n → length (line j) ≤ w) → length (lines n line) ≤ n * w
unfolding lines
lines-at-most line w zero h = omega arith
lines-at-most line w (suc n) h =
    let before = lines-at-most line w n (λ j l. h j (omega arith)) in
    omega (arith, length-append (lines n line) (line n), before, h n (omega arith))

-- every entry is below a bound
abbrev pub Below : ℕ → List ℕ → Type 0
Below k xs = (i : ℕ) → get_or xs i 0 < k

-- .. as those of an array are
pub below : (w : Width) (xs : List ℕ) → ((i : ℕ) → Fits w (get_or xs i 0)) → Below (2 ^ bits w) xs
below w xs h = λ i. (h i).fits

pub moves-le : (moves : List ℕ) (count : ℕ) → Below 256 moves → length (move_lines count moves) ≤ count * 32
unfolding move_lines
moves-le moves count h =
    lines-at-most (move_at moves) 32 count (λ k l. move-le _ _ _ (h (k * 3)) (h (k * 3 + 1)) (h (k * 3 + 2)))
