-- Paper 01, "The day file", with paper 02's kinds 5, 6 and 7: the file of a book, with or without a sheet. A file is a list of parts, and
-- its contents, its offsets and its bytes are computed from that list.
use Rattle.std.specs.Prelude.{List, [], ◌∷◌, ◌++◌, ℕ, ◌+◌, ◌*◌, ◌/◌, ◌%◌, length}
use Rattle.std.specs.Prelude.{Option, None, Some}
use Rattle.model.specs.Lowest.{and_then}
use Rattle.model.specs.Book.{Book, Grid}
use Rattle.dayfile.specs.Layout.{contents_end}

-- each field as two bytes, low byte first
unfoldable pub bytes_of : List ℕ → List ℕ
bytes_of [] = []
bytes_of (x ∷ xs) = x % 256 ∷ x / 256 ∷ bytes_of xs

-- a part of the file: its kind, and the fields of its body
pub record Part : Type 0 where
  pub sort : ℕ
  pub body : List ℕ

abbrev pub part : ℕ → List ℕ → Part
part k xs = record { sort = k; body = xs }

-- an entry for each part, kind, start and length, where the first body starts at `at`
unfoldable pub contents : ℕ → List Part → List ℕ
contents at [] = []
contents at (p ∷ ps) = p.sort ∷ at ∷ 2 * length p.body ∷ contents (at + 2 * length p.body) ps

-- the bodies in the same order without gaps
unfoldable pub bodies : List Part → List ℕ
bodies [] = []
bodies (p ∷ ps) = p.body ++ bodies ps

-- the first field, the contents and the bodies
unfoldable pub fields_of : ℕ → List Part → List ℕ
fields_of first ps = first ∷ contents (contents_end (length ps)) ps ++ bodies ps

unfoldable pub assemble : ℕ → List Part → List ℕ
assemble first ps = bytes_of (fields_of first ps)

-- ---- the parts of a book and a sheet

-- a grid seat by seat, within a seat window by window
unfoldable pub flat : Grid → List ℕ
flat [] = []
flat (r ∷ rs) = r ++ flat rs

abbrev pub flat_if : Option Grid → Option (List ℕ)
flat_if s = and_then s (λ g. Some (flat g))

-- one number, if it is there
abbrev pub one_if : Option ℕ → Option (List ℕ)
one_if o = and_then o (λ x. Some (x ∷ []))

-- a part that may be missing
unfoldable pub opt_part : ℕ → Option (List ℕ) → List Part
opt_part k None = []
opt_part k (Some xs) = part k xs ∷ []

-- the parts that may be missing, in the order of their kinds
unfoldable pub opt_parts : Book → Option Grid → List Part
opt_parts b s = opt_part 4 (flat_if s) ++ (opt_part 5 (one_if b.first) ++ (opt_part 6 b.balances ++ (opt_part 7 b.weights ++ [])))

unfoldable pub parts_of : Book → Option Grid → List Part
parts_of b s = part 1 b.classes ∷ part 2 b.supplies ∷ part 3 (flat b.caps) ∷ opt_parts b s

-- the first field is the number of entries
unfoldable pub file_of : Book → Option Grid → List ℕ
file_of b s = assemble (length (parts_of b s)) (parts_of b s)
