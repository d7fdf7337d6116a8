-- Arrays that are filled from a file.
use Rattle.std.specs.Prelude.{List, ◌≡◌, ℕ, ◌+◌, ◌*◌, length}
use Rattle.lists.specs.Arrays.{Filled}
use Rattle.dayfile.specs.Layout.{field}

-- the first m numbers of the array are the fields from an offset on, and the others are as before
abbrev pub Front : (file : List ℕ) (at m : ℕ) (before after : List ℕ) → Type 0
Front file at m before after = Filled (λ k (x : ℕ). x ≡ field file (at + 2 * k)) 0 (length before) m before m after
