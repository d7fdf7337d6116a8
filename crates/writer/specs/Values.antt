-- What the writer searches in memory for the lines of values.
use Rattle.std.specs.Prelude.{Bool, false, not, List, ℕ, ◌+◌, ◌*◌, length, get_or}
use Rattle.std.specs.Prelude.{Option}
use Rattle.model.specs.Lowest.{lowest}
use Rattle.dayfile.specs.Table.{offset, number_right}

-- the offset of the first number of a list that is not low to high or, where they are to rise, not greater than the one before; the list's
-- first field stands at `at`
unfoldable pub wrong_in : List ℕ → ℕ → ℕ → ℕ → Bool → Option ℕ
wrong_in xs at low high rising =
    offset (λ i. at + 2 * i) (lowest (length xs) (λ i. not (number_right low high rising (λ k. get_or xs k 0) i)))

-- the offset of the first number of a list that is not low to high
abbrev pub outside_in : List ℕ → ℕ → ℕ → ℕ → Option ℕ
outside_in xs at low high = wrong_in xs at low high false
