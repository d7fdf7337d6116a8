-- The planner writes the same bytes to every buffer that is long enough. Assumes nothing.
use mathlib.Core.Path.{◌≡◌, sym, ap, subst, ◌∙◌}
use mathlib.Core.List.{List}
use Rattle.std.specs.Prelude.{None, Some}
use Prim.Native.Nat.{ℕ, ◌≤◌}
use lib.ListN.{length, take}
use Rattle.model.specs.Book.{Grid}
use Rattle.model.specs.Fair.{StandardSheet}
use Rattle.model.proofs.Theorems as model
use Rattle.dayfile.specs.declared.Written.{Written}
use Rattle.dayfile.specs.declared.Written.TheVariants.{Whole}
use Rattle.dayfile.specs.Layout.{book_of}
use Rattle.dayfile.specs.File.{file_of}
use Rattle.dayfile.specs.Table.{first_of, forecast_lines, buffer_lines, plan_lines, planned_length}
use Rattle.dayfile.specs.Outcome.{answer, NoneHolds}
use Rattle.dayfile.proofs.Answers.{tells-answer}
use Rattle.dayfile.proofs.Lines.{none-first-of, on-after, room-enough}
use Rattle.planner.specs.Planning.{Plans}
use Rattle.planner.proofs.Theorems as planner
use Rattle.demands.proofs.Files.{whole_of}
use Rattle.demands.proofs.Fairness.{planned-free, the-planned}

module _ (file : List ℕ) (taken : NoneHolds (forecast_lines file)) where
  abbrev n : ℕ
  n = planned_length (book_of file)

  module _ (before after : List ℕ) (r : Written) (long : planned_length (book_of file) ≤ length before) (plans : Plans file before after r)
    where
      free : first_of (plan_lines file (length before)) ≡ None
      unfolding plan_lines
      free =
          on-after (forecast_lines file) (buffer_lines (length before) n) (none-first-of (forecast_lines file) taken)
          ∙ room-enough (length before) n long

      pub whole : r ≡ Whole (planned_length (book_of file))
      whole = let gives = tells-answer plans free in whole_of r n (gives.1.0 ∙ ap answer gives.1.1.0)

      -- the file with the book's standard sheet
      standard-file : (s : Grid) → StandardSheet (book_of file) s →
          take (planned_length (book_of file)) after ≡ file_of (book_of file) (Some s)
      standard-file s h =
          let p = subst (λ (x : Written). Plans file before after x) whole plans in
          let here = planner.planned file before after (Whole n) p (planned-free file before after n p) in
          the-planned file before after n p
          ∙ ap (λ (g : Grid). file_of (book_of file) (Some g)) (model.standard-one (book_of file) here.sheet s here.standard h)

  pub same_plan : (before after before' after' : List ℕ) (r r' : Written) →
      planned_length (book_of file) ≤ length before → planned_length (book_of file) ≤ length before' →
      Plans file before after r → Plans file before' after' r' →
      (r ≡ Whole (planned_length (book_of file))) × ((r' ≡ r)
      × (take (planned_length (book_of file)) after ≡ take (planned_length (book_of file)) after'))
  same_plan before after before' after' r r' long long' plans plans' =
      let s = model.standard-exists (book_of file) in
      let first = whole before after r long plans in (
        first,
        (
          whole before' after' r' long' plans' ∙ sym first,
          standard-file before after r long plans s.0 s.1 ∙ sym (standard-file before' after' r' long' plans' s.0 s.1),
        ),
      )
