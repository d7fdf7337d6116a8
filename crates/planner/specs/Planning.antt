-- What the planner answers for a file and an output buffer, and what the buffer holds afterwards.
use Rattle.std.specs.Prelude.{◌≡◌, List, ℕ, length}
use Rattle.std.specs.Prelude.{Some}
use Rattle.model.specs.Book.{Book, Grid}
use Rattle.model.specs.Fair.{StandardSheet}
use Rattle.dayfile.specs.declared.Written.{Written}
use Rattle.dayfile.specs.Layout.{book_of}
use Rattle.dayfile.specs.File.{file_of}
use Rattle.dayfile.specs.Table.{planned_length, plan_lines}
use Rattle.dayfile.specs.Outcome.{Defined}
use Rattle.dayfile.specs.Memory.{front, written}

-- the book's file with its standard sheet as kind 4 stands at the buffer's front, and the bytes after it keep their values
pub record Planned (b : Book) (before after : List ℕ) : Type 0 where
  pub sheet : Grid
  pub standard : StandardSheet b sheet
  pub bytes : after ≡ front (file_of b (Some sheet)) before

-- the planner's contract: down its lines, the length of the planned file, and the planned file of the book stands at the buffer's front. A
-- book has one standard sheet and no other (crates/model/proofs/Theorems.antt), so no byte is free.
abbrev pub Plans : (file before after : List ℕ) → Written → Type 0
Plans file before after r =
    Defined (plan_lines file (length before)) before after (written r)
    (λ n. (n ≡ planned_length (book_of file)) × Planned (book_of file) before after)
