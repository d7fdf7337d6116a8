-- Marks 2 to 4 from what the search for exchange paths answers. Assumes nothing.
use mathlib.Core.Path.{◌≡◌, refl, subst}
use mathlib.Core.List.{List}
use Prim.Native.Nat.{ℕ}
use Rattle.model.specs.Book.{Book, Grid, cell, instance_of}
use Rattle.model.specs.Search.{PathOn}
use Rattle.model.specs.Marks.{Mark, improvable, tied, settled, move_bytes}
use Rattle.dayfile.specs.Memory.{front}
use Rattle.std.specs.Prelude.{None}
use Rattle.paths.specs.Paths.{moves_of}
use Rattle.receiver.specs.declared.Kind.{Kind}
use Rattle.receiver.specs.declared.Kind.TheVariants.{Improving, WronglyTied}
use Rattle.search.specs.declared.Exchange.{Exchange}
use Rattle.exchange.specs.Paths.{Writable, Answered, Answers}
use Rattle.exchange.proofs.Theorems.{found_by, on-lists, none-on-lists}
use Rattle.answers.specs.declared.Marking.{Marking}
use Rattle.answers.specs.declared.Marking.TheVariants.{Improvable, Tied, Settled}
use Rattle.marks.specs.Buffer.{PathWritten}
use Rattle.marks.specs.Steps.{fair_mark, MarkedAs}

-- an answer that goes with a mark goes with the same mark under another name
pub marked-as : {b : Book} {s : Grid} {m n : Mark} {before after : List ℕ} {r : Marking} → n ≡ m → MarkedAs b s m before after r →
    MarkedAs b s n before after r
marked-as e h = rw e h

-- the search answers that there is no exchange
pub settled-marked : (b : Book) (s : Grid) → Answers (instance_of b) (cell s) None → (before : List ℕ) →
    MarkedAs b s (fair_mark b s) before before Settled
unfolding fair_mark
settled-marked b s a before =
    let found = none-on-lists b s a in
    let is-settled : fair_mark b s ≡ settled = rw (found.0, found.1) refl in
    marked-as is-settled (record { says = refl; buffer = refl })

-- what the search answers for the exchange x, if it is of kind k
abbrev pub AnsweredAs : Book → Grid → Exchange → Kind → Type 0
AnsweredAs b s x k = Answered (instance_of b) (cell s) k x.path.receiver x.path.donor (moves_of x.path)

module _ (b : Book) (s : Grid) (x : Exchange) (w : Writable x.path) (a : AnsweredAs b s x x.kind) where
  answered : (k : Kind) → x.kind ≡ k → AnsweredAs b s x k
  answered k e = subst (AnsweredAs b s x) e a

  written : PathOn b s x.path.receiver x.path.donor (moves_of x.path) → (before after : List ℕ) →
      after ≡ front (move_bytes (moves_of x.path)) before → PathWritten b s (found_by x.path) before after
  written path before after e = record { moves = moves_of x.path; path = path; count = w.counted; bytes = e }

  is-improvable : x.kind ≡ Improving → fair_mark b s ≡ improvable (found_by x.path)
  unfolding fair_mark
  is-improvable e = rw (on-lists b s x.path w.counted Improving (answered Improving e)) refl

  is_tied : x.kind ≡ WronglyTied → fair_mark b s ≡ tied (found_by x.path)
  unfolding fair_mark
  is_tied e = let found = on-lists b s x.path w.counted WronglyTied (answered WronglyTied e) in rw (found.0, found.1) refl

  pub improvable-marked : x.kind ≡ Improving → (before after : List ℕ) → after ≡ front (move_bytes (moves_of x.path)) before →
      MarkedAs b s (fair_mark b s) before after (Improvable x.path.count)
  improvable-marked e before after h =
      marked-as (is-improvable e) (record { says = refl; buffer = written (answered Improving e).path before after h })

  pub tied-marked : x.kind ≡ WronglyTied → (before after : List ℕ) → after ≡ front (move_bytes (moves_of x.path)) before →
      MarkedAs b s (fair_mark b s) before after (Tied x.path.count)
  tied-marked e before after h =
      marked-as (is_tied e) (record { says = refl; buffer = written (answered WronglyTied e).1.path before after h })
