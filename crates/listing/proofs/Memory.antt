-- A day in memory gives the listing of its book and sheet. Assumes nothing.
use mathlib.Core.Path.{◌≡◌, sym, ap, ap₂, ◌∙◌}
use mathlib.Core.List.{List, ◌++◌}
use Prim.Native.Nat.{ℕ, ◌<◌}
use native.Mathlib.Omega.{arith}
use lib.ListN.{length, get_or}
use Rattle.fairness.specs.Sums.{sum}
use Rattle.fairness.specs.Exchange.{Move}
use Rattle.fairness.proofs.Sums.{sum-eq}
use Rattle.model.specs.Book.{Grid, cell, instance_of}
use Rattle.model.specs.Marks.{Result, move_bytes}
use Rattle.dayfile.specs.Memory.{book_in}
use Rattle.dayfile.specs.declared.Book as Memory
use Rattle.dayfile.proofs.Held.{seats-in, windows-in}
use Rattle.sheet.specs.declared.Sheet.{Sheet}
use Rattle.sheet.specs.Sheets.{credit, grid_of}
use Rattle.dayfile.specs.Memory.{cells_in}
use Rattle.dayfile.proofs.Used.{credit-in, class-in, supply_in}
use Rattle.listing.specs.Listing.{listing_text, listing_of}
use Rattle.listing.proofs.Instance.{listing-is}

module _
    (m : Memory.Book)
    (caps : Grid)
    (sheet : Sheet)
    (given summed : List ℕ)
    (placed-is : (j : ℕ) → j < m.windows → get_or given j 0 ≡ sum m.seats (λ i. credit sheet i j))
    (totals_are : (i : ℕ) → i < m.seats → get_or summed i 0 ≡ sum m.windows (λ j. credit sheet i j))
  where
    pub in_memory : (r : Result) (moves : List ℕ) (ms : List Move) (rest : List ℕ) → moves ≡ move_bytes ms ++ rest → r.moves ≡ length ms →
        listing_text m.seats m.windows m.classes m.supplies given summed r moves
        ≡ listing_of (book_in m caps) (cells_in m (grid_of sheet)) r ms
    unfolding instance_of
    in_memory r moves ms rest e count =
        let n = seats-in m caps in
        let k = windows-in m caps in
        ap₂ (λ (x y : ℕ). listing_text x y m.classes m.supplies given summed r moves) (sym n) (sym k)
        ∙ listing-is (book_in m caps) (cells_in m (grid_of sheet)) ms rest m.classes m.supplies given summed moves
        (λ i li. sym (class-in m caps i (omega arith)))
        (λ j lj. sym (supply_in m caps j (omega arith)))
        (λ j lj.
        placed-is j (omega arith)
        ∙ sum-eq m.seats _ _ (λ i li. sym (credit-in m sheet i j li (omega arith)))
        ∙ ap (λ (x : ℕ). sum x (λ i. cell (cells_in m (grid_of sheet)) i j)) (sym n))
        (λ i li.
        totals_are i (omega arith)
        ∙ sum-eq m.windows _ _ (λ j lj. sym (credit-in m sheet i j (omega arith) lj))
        ∙ ap (λ (x : ℕ). sum x (λ j. cell (cells_in m (grid_of sheet)) i j)) (sym k))
        e r count
