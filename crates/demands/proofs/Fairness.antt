-- What the marker passes, what its chain does, and what the planner writes. Assumes nothing.
use mathlib.Core.Path.{◌≡◌, refl, sym, ap, subst, ◌∙◌}
use mathlib.Core.List.{List}
use mathlib.Core.Logic.{inl, inr, ⊎_elim, ◌↔◌}
use Rattle.std.specs.Prelude.{None}
use Prim.Native.Nat.{ℕ, ◌≤◌}
use native.Mathlib.Omega.{arith}
use lib.ListN.{length, take}
use Rattle.fairness.specs.Instance.{Instance, Wasteful}
use Rattle.fairness.specs.Leximin.{Level, NoHigher, Equal, Higher, SameProfile}
use Rattle.fairness.proofs.Theorems.{same-not-higher, same-symmetric, same-transitive, higher-transitive}
use Rattle.model.specs.Book.{Book, Grid, SheetOf, Lawful, cell, instance_of}
use Rattle.model.specs.Fair.{profile_of, HighestList}
use Rattle.model.specs.Marks.{Mark, wasteful, improvable, tied, settled, Result, mark_of, result_of}
use Rattle.model.proofs.Marks.{mark-means, waste-of}
use Rattle.model.proofs.Theorems as model
use Rattle.dayfile.specs.declared.Written.TheVariants.{Whole}
use Rattle.dayfile.specs.Layout.{book_of}
use Rattle.dayfile.specs.Table.{mark_lines, plan_lines, moves_room}
use Rattle.dayfile.specs.Outcome.{answer, NoneHolds}
use Rattle.dayfile.proofs.Answers.{answered, answer-none}
use Rattle.dayfile.proofs.Lines.{none-holds}
use Rattle.answers.specs.declared.Marking.{Marking}
use Rattle.answers.specs.declared.Marking.TheVariants.{Refused, Improvable, Tied, Settled}
use Rattle.answers.specs.declared.Marking.TheVariants as variants
use Rattle.answers.specs.Answers.{told}
use Rattle.marker.specs.Marking.{marked_sheet, Passing, Marks}
use Rattle.lawful.proofs.Taken.{book-is, sheet-in, none-hold}
use Rattle.marker.proofs.Theorems as marker
use Rattle.planner.specs.Planning.{Plans}
use Rattle.planner.proofs.Theorems as planner
use Rattle.demands.specs.Demands.{Marked, Improves, PlannedFile}
use Rattle.demands.proofs.Files.{taken}
use Rattle.demands.proofs.Marked.{marked-4}

-- equal answers have equal results
result-of : (x y : Result) → answer x ≡ answer y → x ≡ y
result-of x y e = cc

-- which answer has mark 2
improvable-of : (r : Marking) (n : ℕ) → told r ≡ answer (record { mark = 2; window = 0; seat = 0; moves = n }) → r ≡ Improvable n
improvable-of (Refused k p) n e = absurd (let z : ◌≡◌ {A = ℕ} 0 1 = cc in omega arith)
improvable-of (variants.Wasteful w k) n e = absurd (omega (arith, ap (λ (x : Result). x.mark) (result-of _ _ e)))
improvable-of (Improvable k) n e = ap Improvable (ap (λ (x : Result). x.moves) (result-of _ _ e))
improvable-of (Tied k) n e = absurd (omega (arith, ap (λ (x : Result). x.mark) (result-of _ _ e)))
improvable-of Settled n e = absurd (omega (arith, ap (λ (x : Result). x.mark) (result-of _ _ e)))

module _ (file : List ℕ) (b : Book) (s : Grid) (before after : List ℕ) (r : Marking) (m : Marked file b s before after r) where
  free : NoneHolds (mark_lines file (length before))
  free = none-hold file b s m.accepted m.lawful (length before) m.long

  the-book : book_of file ≡ b
  the-book = book-is file b s m.accepted

  the-sheet : marked_sheet file ≡ s
  the-sheet = sheet-in file b s m.accepted

  pub passes_exactly : (xs : List Level) → HighestList b xs → Passing (told r) ↔ Equal NoHigher (profile_of b s) xs
  passes_exactly xs h =
      rw (the-book, the-sheet) at (marker.passes_exactly file before after r m.marks free xs (rw the-book h))

  -- no lawful sheet has a higher list than one that passes
  pub passing_highest : Passing (told r) → (t : Grid) → SheetOf b t → Lawful b t → Higher NoHigher (profile_of b s) (profile_of b t) → ⊥
  passing_highest passing t a_sheet lawful higher =
      let I : Instance = instance_of b in
      let proper = model.proper b in
      let top = model.highest-list-exists b in
      let u : Grid = top.1.sheet in
      let same : SameProfile I (cell s) (cell u) = rw (← top.1.its_list) at ((passes_exactly top.0 top.1).0 passing) in
      ⊎_elim
      (λ e.
      let back = same-symmetric I (cell t) (cell u) (rw (← top.1.its_list) at e) in
      same-not-higher I (cell s) (cell t) (same-transitive I proper (cell s) (cell u) (cell t) same back) higher)
      (λ e.
      let on = higher-transitive I proper (cell s) (cell t) (cell u) higher (rw (← top.1.its_list) at e) in
      same-not-higher I (cell s) (cell u) same on)
      (top.1.most t a_sheet lawful)

  answers : told r ≡ answer (result_of (mark_of b s))
  answers = rw (the-book, the-sheet) at (marker.answers file before after r m.marks free)

  pub fails : (Passing (told r) → ⊥) → (Wasteful (instance_of b) (cell s) → ⊥) →
      (n : ℕ) × ((told r ≡ answer (record { mark = 2; window = 0; seat = 0; moves = n })) × Improves b s n after)
  fails failing full = go (mark_of b s) refl
    where
      go : (k : Mark) → mark_of b s ≡ k →
          (n : ℕ) × ((told r ≡ answer (record { mark = 2; window = 0; seat = 0; moves = n })) × Improves b s n after)
      go (wasteful j i) e = absurd (full (waste-of b s j i ((mark-means b s (wasteful j i)).0 e)))
      go (improvable f) e =
          let said : told r ≡ answer (record { mark = 2; window = 0; seat = 0; moves = f.moves }) =
          answers ∙ ap (λ (k : Mark). answer (result_of k)) e in
          let plays = marker.path-plays file before after r m.marks free f.moves (improvable-of r f.moves said) in
          let here : Improves (book_of file) (marked_sheet file) f.moves after =
          record { possible = plays.0; lawful = plays.1; higher = plays.2 } in
          (f.moves, (said, rw (the-book, the-sheet) at here))
      go (tied f) e = absurd (failing (subst Passing (sym (answers ∙ ap (λ (k : Mark). answer (result_of k)) e)) (inl refl)))
      go settled e = absurd (failing (subst Passing (sym (answers ∙ ap (λ (k : Mark). answer (result_of k)) e)) (inr refl)))

module _ (file before after : List ℕ) (n : ℕ) (plans : Plans file before after (Whole n)) where
  pub planned-free : NoneHolds (plan_lines file (length before))
  planned-free = none-holds (plan_lines file (length before)) (answer-none plans n refl).0

  pub the-planned : take n after ≡ planner.the_file file before after (Whole n) plans planned-free
  the-planned =
      let sheet = planner.planned file before after (Whole n) plans planned-free in
      let size = answered None (length (planner.the_file file before after (Whole n) plans planned-free)) n
      (sym (planner.told-length file before after (Whole n) plans planned-free)) in
      ap (take n) sheet.bytes ∙ taken _ before n (sym size.1)

  pub planned : PlannedFile (book_of file) n after
  planned =
      record {
        sheet = (planner.planned file before after (Whole n) plans planned-free).sheet;
        reads_back = rw the-planned (planner.reads_back file before after (Whole n) plans planned-free);
        lawful = (planner.settled file before after (Whole n) plans planned-free).feasible;
        highest = planner.highest file before after (Whole n) plans planned-free;
        ordered = (planner.settled file before after (Whole n) plans planned-free).ordered;
        totals_are = planner.settled-totals file before after (Whole n) plans planned-free;
        standard = (planner.planned file before after (Whole n) plans planned-free).standard;
      }

  pub planned_passes : (moves moves' : List ℕ) (r : Marking) → moves_room ≤ length moves → Marks (take n after) moves moves' r →
      told r ≡ answer (record { mark = 4; window = 0; seat = 0; moves = 0 })
  planned_passes moves moves' r long marks =
      let sheet = planner.planned file before after (Whole n) plans planned-free in
      let back = planner.reads_back file before after (Whole n) plans planned-free in
      let whole = planner.the_file file before after (Whole n) plans planned-free in
      let settled = planner.settled file before after (Whole n) plans planned-free in
      marked-4 whole (book_of file) sheet.sheet back settled moves moves' r long (rw the-planned at marks)
