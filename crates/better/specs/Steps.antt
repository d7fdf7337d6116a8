-- What the parts of the choice hand to each other: two days in memory, compared.
use Rattle.std.specs.Prelude.{◌≡◌, Bool, true, false, List}
use Rattle.fairness.specs.Leximin.{Level, NoHigher, Higher}
use Rattle.choice.specs.declared.Choice.{Choice}
use Rattle.choice.specs.declared.Choice.TheVariants.{Refused, First, Second}

-- of two days with the same book or with two, and with these lists of their sheets
abbrev pub Compared : Bool → (xs ys : List Level) → Choice → Type 0
Compared same xs ys (Refused file number at) = (same ≡ false) × ((file ≡ 0) × ((number ≡ 17) × (at ≡ 0)))
Compared same xs ys First = (same ≡ true) × (Higher NoHigher xs ys → ⊥)
Compared same xs ys Second = (same ≡ true) × Higher NoHigher xs ys
