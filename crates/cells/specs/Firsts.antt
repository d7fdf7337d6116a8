-- Parts of the table's lines 14 and 15, of a body at a given place.
use Rattle.std.specs.Prelude.{List, ℕ, ◌+◌, ◌*◌, ltb}
use Rattle.std.specs.Prelude.{Option}
use Rattle.model.specs.Lowest.{lowest}
use Rattle.dayfile.specs.Layout.{field, windows_in}
use Rattle.dayfile.specs.Table.{offset, cell_at, placed_in}

-- the first of n fields from an offset on that is above the field with the same number from another offset on
unfoldable pub first_above : List ℕ → ℕ → ℕ → ℕ → Option ℕ
first_above f at most n = offset (λ i. at + 2 * i) (lowest n (λ i. ltb (field f (most + 2 * i)) (field f (at + 2 * i))))

-- the supply of the first window whose cells together, in the body of entry e, are above it
unfoldable pub first_over : List ℕ → ℕ → Option ℕ
first_over f e = offset (cell_at f 1) (lowest (windows_in f) (λ j. ltb (field f (cell_at f 1 j)) (placed_in f e j)))
