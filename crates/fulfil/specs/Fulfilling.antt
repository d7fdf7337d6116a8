-- Paper 02, E7: what the call replies to a file and a row of wanted totals, and what the output buffer holds afterwards.
use Rattle.std.specs.Prelude.{List, ◌↔◌, ◌≡◌, ℕ, length}
use Rattle.model.specs.Book.{Book, Grid, instance_of}
use Rattle.dayfile.specs.File.{bytes_of, flat}
use Rattle.dayfile.specs.Layout.{book_of}
use Rattle.dayfile.specs.Table.{refuse, body_length, fulfil_lines}
use Rattle.dayfile.specs.Outcome.{Outcome, turned_away, answer, Defined}
use Rattle.dayfile.specs.Memory.{front}
use Rattle.wants.specs.Wanted.{want, Gives, Fulfillable, Overasks}
use Rattle.reply.specs.declared.Reply.{Reply}
use Rattle.reply.specs.declared.Reply.TheVariants.{Refused, Sheet, Group}

-- the two kinds of reply: a sheet, with the length of its body, or a group of seats, as a set of which digit i is seat i
pub data Kind : Type 0 where
  a_sheet : ℕ → Kind
  a_group : ℕ → Kind

-- what the call answers: a refusal, or one of the two
abbrev pub replied : Reply → Outcome Kind
replied (Refused number at) = turned_away (refuse number at)
replied (Sheet length) = answer (a_sheet length)
replied (Group seats) = answer (a_group seats)

-- a sheet that gives the wanted totals: its body stands at the buffer's front, and the bytes after it keep their values
pub record Given (b : Book) (wants : ℕ → ℕ) (before after : List ℕ) : Type 0 where
  pub sheet : Grid
  pub gives : Gives b wants sheet
  pub bytes : after ≡ front (bytes_of (flat sheet)) before

-- what holds of a reply to a file and a row, by its kind. Which sheet comes, and which group, is left free.
abbrev pub Right : (file row before after : List ℕ) → Kind → Type 0
Right file row before after (a_sheet n) = (n ≡ body_length file) × Given (book_of file) (want row) before after
Right file row before after (a_group g) = Overasks (instance_of (book_of file)) (want row) g × (after ≡ before)

-- it is a sheet
abbrev pub IsSheet : Kind → Type 0
IsSheet (a_sheet n) = Unit {0}
IsSheet (a_group g) = ⊥

-- the contract: down its lines, a sheet or a group of which that holds; and a sheet exactly when there is one
abbrev pub Fulfils : (file row before after : List ℕ) → Reply → Type 0
Fulfils file row before after r =
    Defined (fulfil_lines file row (length before)) before after (replied r)
    (λ x. Right file row before after x × (IsSheet x ↔ Fulfillable (book_of file) (want row)))
