-- How long listings can be.
use mathlib.Core.Bool.{Bool, true, false}
use mathlib.Core.List.{List, ◌++◌}
use Prim.Native.Nat.{ℕ, ◌+◌, ◌*◌, ◌^◌, ◌≤◌, ◌<◌}
use native.Mathlib.Omega.{arith}
use lib.Dec.{eqb}
use lib.ListN.{length, get_or, length-append}
use Rattle.model.specs.Marks.{Result}
use Rattle.std.specs.Prelude.{codes}
use Rattle.lines.specs.Lines.{last_field, left_line, window_at, window_lines, seat_at, seat_lines, move_lines}
use Rattle.lines.proofs.Bounds.{last-le, head-le, window-le, seat-le, left_le, lines-at-most, Below, moves-le}
use Rattle.listing.specs.Listing.{book_lines, pick, result_lines, listing_text, listing_max}

module _ (n m : ℕ) (classes supplies placed totals : List ℕ) (hn : n ≤ 32) (hm : m ≤ 24)
    (hc : Below 65536 classes) (hs : Below 65536 supplies) (hp : Below 4294967296 placed) (ht : Below 4294967296 totals)
  where
    book-le : length (book_lines n m classes supplies placed totals) ≤ 20 + 24 * 52 + 32 * 37
    unfolding book_lines window_lines seat_lines
    book-le =
        let head = head-le n m (omega arith) (omega arith) in
        let windows =
        lines-at-most (window_at supplies placed) 52 m
        (λ j h. window-le j (get_or supplies j 0) (get_or placed j 0) (omega arith) (hs j) (hp j)) in
        let seats =
        lines-at-most (seat_at classes totals) 37 n
        (λ i h. seat-le i (get_or classes i 0) (get_or totals i 0) (omega arith) (hc i) (ht i)) in
        simp length-append (omega (arith, head, windows, seats))

    module _ (r : Result) (moves : List ℕ) (hk : r.mark < 256) (hw : r.window < 2 ^ 64) (hi : r.seat < 2 ^ 64)
        (hv : Below 256 moves) (hu : r.moves ≤ 31)
      where
        result-le : length (result_lines r moves) ≤ 9 + 31 * 32
        unfolding result_lines
        result-le = go (eqb r.mark 1) (last-le (codes "mark ") 2 r.mark (omega arith)) (moves-le moves r.moves hv)
          where
            go : (b : Bool) → length (last_field "mark " r.mark) ≤ 9 → length (move_lines r.moves moves) ≤ r.moves * 32
                → length (last_field "mark " r.mark ++ pick b (left_line r.window r.seat) (move_lines r.moves moves)) ≤ 9 + 31 * 32
            go true first moved = simp length-append (omega (arith, first, left_le r.window r.seat hw hi))
            go false first moved = simp length-append (omega (arith, first, moved))

        pub listing-le : length (listing_text n m classes supplies placed totals r moves) ≤ listing_max
        unfolding listing_text
        listing-le = simp length-append (omega (arith, book-le, result-le))
