-- Paper 02, E7: wanted totals, a sheet that gives them, and a group of seats that wants more than it can get.
use Rattle.std.specs.Prelude.{List, ℕ, ◌+◌, ◌*◌, ◌<◌}
use Rattle.std.proofs.Math.Decide.{ℕ_discrete}
use Rattle.fairness.specs.Instance.{Instance}
use Rattle.fairness.specs.Wanted.{Grants, WantsMore}
use Rattle.model.specs.Book.{Book, Grid, SheetOf, cell, instance_of}
use Rattle.masks.specs.Sets.{bit, In}
use Rattle.dayfile.specs.Layout.{field}

-- a row of wanted totals: four bytes for each seat, low byte first
abbrev pub want : List ℕ → ℕ → ℕ
want row i = field row (4 * i) + 65536 * field row (4 * i + 2)

-- a lawful sheet of the book with just the wanted totals
pub record Gives (b : Book) (wants : ℕ → ℕ) (s : Grid) : Type 0 where
  pub a_sheet : SheetOf b s
  pub grants : Grants (instance_of b) wants (cell s)

-- there is one
abbrev pub Fulfillable : Book → (ℕ → ℕ) → Type 0
Fulfillable b wants = (s : Grid) × Gives b wants s

-- a group of seats, as a number of which binary digit i is seat i: its wants together are above document 000's cap of the group, the sum
-- over the windows of the lesser of the supply and the group's caps (`group_capacity`)
pub record Overasks (I : Instance) (wants : ℕ → ℕ) (group : ℕ) : Type 0 where
  pub of_the_book : (i : ℕ) → In i group → i < I.seats
  pub more : WantsMore I wants (λ i. ℕ_discrete (bit group i) 1)
