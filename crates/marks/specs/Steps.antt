-- What the parts of the marker answer.
use Rattle.std.specs.Prelude.{◌≡◌, List, ℕ}
use Rattle.std.specs.Prelude.{Some}
use Rattle.fairness.specs.Exchange.{improves_at, ties_at}
use Rattle.model.specs.Lowest.{or_else, and_then, value_or}
use Rattle.model.specs.Book.{Book, Grid, Lawful, cell, instance_of}
use Rattle.model.specs.Search.{search}
use Rattle.model.specs.Marks.{Mark, improvable, tied, settled, result_of}
use Rattle.dayfile.specs.Bounds.{Fit}
use Rattle.dayfile.specs.Outcome.{answer}
use Rattle.dayfile.specs.Memory.{book_in, cells_in}
use Rattle.dayfile.specs.declared.Book as Memory
use Rattle.answers.specs.declared.Marking.{Marking}
use Rattle.answers.specs.Answers.{told}
use Rattle.marks.specs.Buffer.{BufferAfter}

-- the mark of a sheet that is not wasteful: the first that holds of 2, 3, 4
unfoldable pub fair_mark : Book → Grid → Mark
fair_mark b s =
    value_or
    (or_else (and_then (search b s (improves_at (instance_of b) (cell s))) (λ f. Some (improvable f)))
    (and_then (search b s (ties_at (instance_of b) (cell s))) (λ f. Some (tied f))))
    settled

-- the answer says the mark m, and the buffer holds what goes with it
pub record MarkedAs (b : Book) (s : Grid) (m : Mark) (before after : List ℕ) (r : Marking) : Type 0 where
  pub says : told r ≡ answer (result_of m)
  pub buffer : BufferAfter b s (answer m) before after

-- the book in memory fits, and its sheet is lawful
pub record Markable (m : Memory.Book) (caps sheet : Grid) : Type 0 where
  pub fit : Fit (book_in m caps)
  pub lawful : Lawful (book_in m caps) (cells_in m sheet)
