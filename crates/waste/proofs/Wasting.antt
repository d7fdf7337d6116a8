-- Waste on the arrays in memory is waste on the book and the sheet that they hold. Assumes nothing.
use mathlib.Core.Path.{◌≡◌, sym, ap, ap₂, ◌∙◌}
use mathlib.Core.Bool.{Bool, ◌&&◌}
use mathlib.Core.List.{List}
use Rattle.std.specs.Prelude.{None, Some}
use Prim.Native.Nat.{ℕ, ◌<◌}
use lib.Dec.{ltb}
use lib.ListN.{get_or}
use Rattle.fairness.specs.Sums.{sum}
use Rattle.fairness.specs.Instance.{placed}
use Rattle.fairness.proofs.Sums.{sum-eq}
use Rattle.model.specs.Lowest.{lowest, is_some}
use Rattle.model.specs.Book.{Grid, cell, instance_of}
use Rattle.model.specs.Marks.{seat_below, wasted_window}
use Rattle.dayfile.specs.Memory.{book_in, cells_in}
use Rattle.dayfile.specs.declared.Book as Memory
use Rattle.dayfile.proofs.Search.{same-search}
use Rattle.dayfile.proofs.Held.{seats-in, windows-in}
use Rattle.waste.specs.Wastes.{lowest_below, Tells}
use Rattle.waste.specs.declared.Waste.TheVariants.{Nowhere, At}
use Rattle.dayfile.proofs.Used.{cell_in, cap-in, supply_in}

-- what the arrays say: of n seats, window j has credits left and a seat below its cap
abbrev pub wastes : (cells caps : Grid) (given supplies : List ℕ) → ℕ → ℕ → Bool
wastes cells caps given supplies n j = ltb (get_or given j 0) (get_or supplies j 0) && is_some (lowest_below cells caps n j)

module _
    (m : Memory.Book)
    (caps : Grid)
    (cells : Grid)
    (given : List ℕ)
    (given_is : (j : ℕ) → j < m.windows → get_or given j 0 ≡ sum m.seats (λ i. cell cells i j))
  where
    below-is : (j : ℕ) → j < m.windows → seat_below (book_in m caps) (cells_in m cells) j ≡ lowest_below cells caps m.seats j
    unfolding seat_below lowest_below
    below-is j l =
        rw (seats-in m caps) (same-search _ _ m.seats (λ i k. ap₂ ltb (cell_in m cells i j k l) (cap-in m caps i j k l)))

    placed-is : (j : ℕ) → j < m.windows → placed (instance_of (book_in m caps)) (cell (cells_in m cells)) j ≡ get_or given j 0
    unfolding instance_of
    placed-is j l =
        rw (seats-in m caps) (sum-eq m.seats _ _ (λ i k. cell_in m cells i j k l) ∙ sym (given_is j l))

    window_is : wasted_window (book_in m caps) (cells_in m cells) ≡ lowest m.windows (wastes cells caps given m.supplies m.seats)
    unfolding wasted_window
    window_is =
        rw (windows-in m caps)
        (same-search _ _ m.windows (λ j l.
        ap₂ ◌&&◌ (ap₂ ltb (placed-is j l) (supply_in m caps j l)) (ap is_some (below-is j l))))

    -- the first window that is wasted, and its seat
    pub wasted-at : (j i : ℕ) → Some j ≡ lowest m.windows (wastes cells caps given m.supplies m.seats) → j < m.windows →
        lowest_below cells caps m.seats j ≡ Some i → Tells (book_in m caps) (cells_in m cells) (At j i)
    wasted-at j i first l p = (window_is ∙ sym first, below-is j l ∙ p)

    -- no window is
    pub nowhere : None ≡ lowest m.windows (wastes cells caps given m.supplies m.seats) →
        Tells (book_in m caps) (cells_in m cells) Nowhere
    nowhere e = window_is ∙ sym e
