-- What the check of the row and the buffer hands to the call.
use Rattle.std.specs.Prelude.{List, ◌++◌, ℕ}
use Rattle.dayfile.specs.Table.{Line, row_lines, buffer_lines, body_length}

-- the lines of what is lent beside the file
abbrev pub lent_lines : (file row : List ℕ) → ℕ → List Line
lent_lines f row room = row_lines f row ++ buffer_lines room (body_length f)
