-- What the planner's steps show, from what is read and written. Assumes nothing.
use mathlib.Core.Path.{◌≡◌, refl, sym, ap, ap₂, ◌∙◌, subst}
use mathlib.Core.Bool.{true}
use mathlib.Core.List.{List, ◌++◌}
use Rattle.std.specs.Prelude.{Option, None, Some}
use Prim.Native.Nat.{ℕ, ◌<◌}
use native.Mathlib.Omega.{arith}
use lib.ListN.{length}
use Rattle.fairness.specs.Standard.{Standard}
use Rattle.model.specs.Lowest.{or_else}
use Rattle.model.specs.Book.{Book, Grid, SheetOf, cell, seats, windows, instance_of}
use Rattle.model.proofs.Agree.{agree-standard}
use Rattle.dayfile.specs.Layout.{book_of}
use Rattle.dayfile.specs.Table.{Refusal, refuse, first_of, read_lines, idle_lines, forecast_lines, buffer_lines, plan_lines, planned_length}
use Rattle.dayfile.specs.Memory.{sized_grid, book_in, file_with, front}
use Rattle.dayfile.specs.declared.Book as Memory
use Rattle.dayfile.specs.declared.Written as Written
use Rattle.dayfile.proofs.Lines.{stop-in, on-after, first-both}
use Rattle.dayfile.proofs.Answers.{defined-refusal, defined-answer}
use Rattle.dayfile.proofs.Used.{cell_in}
use Rattle.dayfile.proofs.Held.{seats-in, windows-in, sheet-shaped}
use Rattle.planner.specs.Planning.{Planned, Plans}

-- ---- what is planned, of a book in memory

module _ (m : Memory.Book) (caps g : Grid) where
  abbrev b : Book
  b = book_in m caps

  -- the used cells of a grid in memory
  abbrev used : Grid
  used = sized_grid m.seats m.windows g

  used-sheet : SheetOf b used
  used-sheet = sheet-shaped m caps true g

  used-cell : (i j : ℕ) → i < seats b → j < windows b → cell g i j ≡ cell used i j
  used-cell i j li lj = sym (cell_in m g i j (omega (arith, seats-in m caps)) (omega (arith, windows-in m caps)))

  -- a standard grid makes a planned file
  pub planned-is : Standard (instance_of (book_in m caps)) (cell g) → (old new : List ℕ) → new ≡ front (file_with m caps true g) old
      → Planned (book_in m caps) old new
  unfolding instance_of file_with
  planned-is standard old new w =
      record {
        sheet = used;
        standard = record { a_sheet = used-sheet; standard = agree-standard (instance_of b) (cell g) (cell used) used-cell standard };
        bytes = w;
      }

-- ---- the lines, and the answers

module _ (f : List ℕ) (room : ℕ) where
  -- a line of the reader's holds
  pub plan-stop : (q : Refusal) → first_of (read_lines f) ≡ Some q → first_of (plan_lines f room) ≡ Some q
  unfolding plan_lines
  plan-stop q e = stop-in (forecast_lines f) _ q (stop-in (read_lines f) (idle_lines f) q e)

  -- none does, so those behind them decide
  pub plan-on : first_of (read_lines f) ≡ None →
      first_of (plan_lines f room) ≡ first_of (idle_lines f ++ buffer_lines room (planned_length (book_of f)))
  unfolding plan_lines
  plan-on e =
      let buffer = buffer_lines room (planned_length (book_of f)) in
      first-both (forecast_lines f) buffer
      ∙ ap (λ (o : Option Refusal). or_else o (first_of buffer)) (on-after (read_lines f) (idle_lines f) e)
      ∙ sym (first-both (idle_lines f) buffer)

  -- what the two checks behind the reader's say
  pub rest-told : (need : ℕ) → need ≡ planned_length (book_of f) → {x a b : Option Refusal} → x ≡ or_else a b →
      a ≡ first_of (idle_lines f) →
      b ≡ first_of (buffer_lines room need) → x ≡ first_of (idle_lines f ++ buffer_lines room (planned_length (book_of f)))
  rest-told need e both idle short =
      both ∙ ap₂ or_else idle (short ∙ ap (λ (k : ℕ). first_of (buffer_lines room k)) e) ∙ sym (first-both (idle_lines f) _)

module _ (f old : List ℕ) where
  pub plan-refused : (n p : ℕ) → first_of (plan_lines f (length old)) ≡ Some (refuse n p) →
      Plans f old old (Written.TheVariants.Refused n p)
  plan-refused n p e = defined-refusal (refuse n p) e refl refl

  pub plan-whole : first_of (plan_lines f (length old)) ≡ None → (b : Book) → b ≡ book_of f → (new : List ℕ) (n : ℕ) →
      n ≡ planned_length (book_of f) → Planned b old new → Plans f old new (Written.TheVariants.Whole n)
  plan-whole free b same new n e planned =
      defined-answer n free refl (e, subst (λ (x : Book). Planned x old new) same planned)
