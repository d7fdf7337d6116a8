-- Numbers in memory that are those of a book, a sheet and moves give the listing of these.
use mathlib.Core.Path.{◌≡◌, sym, ap₂, ◌∙◌}
use mathlib.Core.List.{List, ◌++◌}
use Prim.Native.Nat.{ℕ, ◌+◌, ◌*◌, ◌<◌}
use native.Mathlib.Omega.{arith}
use lib.ListN.{length, get_or, get_or-append}
use Rattle.fairness.specs.Instance.{placed, total}
use Rattle.fairness.specs.Exchange.{Move}
use Rattle.model.specs.Book.{Book, Grid, cell, seats, windows, instance_of, totals}
use Rattle.model.specs.Marks.{Result, move_bytes}
use Rattle.model.proofs.Moves.{move-bytes-length}
use Rattle.lists.proofs.Tables.{table_at}
use Rattle.lines.proofs.Fronts.{lines_same}
use Rattle.lines.specs.Lines.{window_line, seat_line, move_line, window_lines, seat_lines, move_lines}
use Rattle.listing.specs.Listing.{book_lines, result_lines, listing_text, listing_of}

-- ---- the same numbers give the same text

-- two lists have the same first k entries
record Agree (k : ℕ) (xs ys : List ℕ) : Type 0 where
  pub entry : (i : ℕ) → i < k → get_or xs i 0 ≡ get_or ys i 0

windows-same : (m : ℕ) {supplies supplies' placed placed' : List ℕ} → Agree m supplies supplies' → Agree m placed placed'
    → window_lines m supplies placed ≡ window_lines m supplies' placed'
unfolding window_lines
windows-same m hs hp = lines_same _ _ m (λ j l. ap₂ (window_line j) (hs.entry j l) (hp.entry j l))

seats-same : (n : ℕ) {classes classes' totals totals' : List ℕ} → Agree n classes classes' → Agree n totals totals'
    → seat_lines n classes totals ≡ seat_lines n classes' totals'
unfolding seat_lines
seats-same n hc ht = lines_same _ _ n (λ i l. ap₂ (seat_line i) (hc.entry i l) (ht.entry i l))

moves-same : (count : ℕ) {moves moves' : List ℕ} → Agree (count * 3) moves moves' → move_lines count moves ≡ move_lines count moves'
unfolding move_lines
moves-same count {moves} {moves'} h =
    lines_same _ _ count
    (λ k l. ap₂ (λ (f : ℕ → List ℕ) (t : ℕ). f t)
    (ap₂ move_line (h.entry (k * 3) (omega arith)) (h.entry (k * 3 + 1) (omega arith))) (h.entry (k * 3 + 2) (omega arith)))

listing-same : (n m : ℕ) (r : Result)
    {classes classes' supplies supplies' placed placed' totals totals' moves moves' : List ℕ}
    → Agree n classes classes' → Agree m supplies supplies' → Agree m placed placed' → Agree n totals totals'
    → Agree (r.moves * 3) moves moves'
    → listing_text n m classes supplies placed totals r moves ≡ listing_text n m classes' supplies' placed' totals' r moves'
unfolding listing_text book_lines result_lines
listing-same n m r hc hs hp ht hv = rw (windows-same m hs hp, seats-same n hc ht, moves-same r.moves hv)

-- ---- a book in memory

-- moves that stand at a buffer's front
at_front : (ms : List Move) (rest : List ℕ) → Agree (length ms * 3) (move_bytes ms ++ rest) (move_bytes ms)
at_front ms rest =
    record { entry = λ k h. get_or-append (move_bytes ms) rest 0 k (omega (arith, move-bytes-length ms)) }

-- the numbers are those of the book and the sheet, and the moves ms stand first
module _ (b : Book) (s : Grid) (ms : List Move) (rest classes supplies given summed moves : List ℕ)
    (class : (i : ℕ) → i < seats b → get_or classes i 0 ≡ get_or b.classes i 0)
    (supply : (j : ℕ) → j < windows b → get_or supplies j 0 ≡ get_or b.supplies j 0)
    (window_placed : (j : ℕ) → j < windows b → get_or given j 0 ≡ placed (instance_of b) (cell s) j)
    (seat-total : (i : ℕ) → i < seats b → get_or summed i 0 ≡ total (instance_of b) (cell s) i)
    (written : moves ≡ move_bytes ms ++ rest)
  where
    pub listing-is : (r : Result) → r.moves ≡ length ms →
        listing_text (seats b) (windows b) classes supplies given summed r moves ≡ listing_of b s r ms
    unfolding listing_of totals
    listing-is r count =
        listing-same _ _ r
        (record { entry = class })
        (record { entry = supply })
        (record { entry = λ j l. window_placed j l ∙ sym (table_at _ _ j 0 l) })
        (record { entry = λ i l. seat-total i l ∙ sym (table_at _ _ i 0 l) })
        (rw (written, count) (at_front ms rest))
