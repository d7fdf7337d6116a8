-- What the search for waste answers.
use Rattle.std.specs.Prelude.{◌≡◌, ℕ, ltb}
use Rattle.std.specs.Prelude.{Option, None, Some}
use Rattle.model.specs.Lowest.{lowest}
use Rattle.model.specs.Book.{Book, Grid, cell}
use Rattle.model.specs.Marks.{seat_below, wasted_window}
use Rattle.waste.specs.declared.Waste.{Waste}
use Rattle.waste.specs.declared.Waste.TheVariants.{Nowhere, At}

-- the lowest of n seats whose cell is below its cap in window j
unfoldable pub lowest_below : (cells caps : Grid) → ℕ → ℕ → Option ℕ
lowest_below cells caps n j = lowest n (λ i. ltb (cell cells i j) (cell caps i j))

-- the answer is the window and the seat that paper 01's mark 1 names
abbrev pub Tells : Book → Grid → Waste → Type 0
Tells b s Nowhere = wasted_window b s ≡ None
Tells b s (At j i) = (wasted_window b s ≡ Some j) × (seat_below b s j ≡ Some i)
