-- The text that the program `mark` prints of a file, and what stands in the output buffer afterwards.
use Rattle.std.specs.Prelude.{◌≡◌, List, [], ℕ, length}
use Rattle.fairness.specs.Exchange.{Move}
use Rattle.model.specs.Book.{Book, Grid}
use Rattle.model.specs.Search.{PathOn}
use Rattle.model.specs.Marks.{Mark, wasteful, improvable, tied, settled, result_of}
use Rattle.dayfile.specs.declared.Written.{Written}
use Rattle.dayfile.specs.Layout.{book_of}
use Rattle.dayfile.specs.Table.{buffer_lines, moves_room}
use Rattle.dayfile.specs.Outcome.{Outcome, turned_away, answer, Defined}
use Rattle.dayfile.specs.Memory.{written}
use Rattle.marker.specs.Marking.{marked_sheet, mark_file}
use Rattle.lines.specs.Lines.{refusal_line, Printed}
use Rattle.listing.specs.Listing.{listing_of, listing_max}

-- the text of what the marker answers, with the moves that it writes
abbrev pub text_of : Book → Grid → Outcome Mark → List Move → List ℕ
text_of b s (turned_away q) moves = refusal_line q.number q.at
text_of b s (answer m) moves = listing_of b s (result_of m) moves

-- the moves are those of a path that the marker may write; marks 1 and 4 and a refusal have none
abbrev pub MovesOf : Book → Grid → Outcome Mark → List Move → Type 0
MovesOf b s (turned_away q) moves = moves ≡ []
MovesOf b s (answer (wasteful j i)) moves = moves ≡ []
MovesOf b s (answer (improvable f)) moves = PathOn b s f.receiver f.donor moves × (length moves ≡ f.moves)
MovesOf b s (answer (tied f)) moves = PathOn b s f.receiver f.donor moves × (length moves ≡ f.moves)
MovesOf b s (answer settled) moves = moves ≡ []

-- the text with the moves of such a path stands at the buffer's front, the bytes after it keep their values, and the text's length is given
pub record Listed (file before after : List ℕ) (n : ℕ) : Type 0 where
  pub moves : List Move
  pub the_moves : MovesOf (book_of file) (marked_sheet file) (mark_file file moves_room) moves
  pub printed : Printed before (text_of (book_of file) (marked_sheet file) (mark_file file moves_room) moves) after n

-- the contract of the listing: only a buffer that is shorter than the longest listing is refused, with line 16; a file that the marker
-- refuses has a text as well
abbrev pub Lists : (file before after : List ℕ) → Written → Type 0
Lists file before after r = Defined (buffer_lines (length before) listing_max) before after (written r) (Listed file before after)
