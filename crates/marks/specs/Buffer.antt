-- What the marker's output buffer holds afterwards.
use Rattle.std.specs.Prelude.{◌≡◌, List, ℕ, length}
use Rattle.fairness.specs.Exchange.{Move}
use Rattle.model.specs.Book.{Book, Grid}
use Rattle.model.specs.Search.{Found, PathOn}
use Rattle.model.specs.Marks.{Mark, wasteful, improvable, tied, settled, move_bytes}
use Rattle.dayfile.specs.Outcome.{Outcome, turned_away, answer}
use Rattle.dayfile.specs.Memory.{front}

-- a path with the receiver, the donor and the number of moves that the search rule picks is written at the buffer's front, and
-- the bytes after it keep their values. Its windows and middle seats are free.
pub record PathWritten (b : Book) (s : Grid) (f : Found) (before after : List ℕ) : Type 0 where
  pub moves : List Move
  pub path : PathOn b s f.receiver f.donor moves
  pub count : length moves ≡ f.moves
  pub bytes : after ≡ front (move_bytes moves) before

-- marks 2 and 3 write a path; marks 1 and 4 and a refusal change no byte
abbrev pub BufferAfter : Book → Grid → Outcome Mark → List ℕ → List ℕ → Type 0
BufferAfter b s (turned_away q) before after = after ≡ before
BufferAfter b s (answer (wasteful j i)) before after = after ≡ before
BufferAfter b s (answer (improvable f)) before after = PathWritten b s f before after
BufferAfter b s (answer (tied f)) before after = PathWritten b s f before after
BufferAfter b s (answer settled) before after = after ≡ before
