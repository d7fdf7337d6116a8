-- The tests of a book's sheets and of its seats mean what they say. Assumes nothing.
use mathlib.Core.Path.{◌≡◌, refl, sym, ap}
use mathlib.Core.Bool.{Bool, true, not, true≢false}
use Rattle.std.specs.Prelude.{Option, None, Some}
use mathlib.Core.Logic.{◌↔◌}
use mathlib.Core.List.{[]}
use Prim.Native.Nat.{ℕ}
use lib.Dec.{eqb, ltb}
use lib.ListN.{length, get_or}
use borrow.Author.Tests.{eqb-true, eq-eqb, ltb-false, le-ltb, not-true, not-false}
use Rattle.fairness.specs.Instance.{placed}
use Rattle.model.specs.Lowest.{lowest, is_some}
use Rattle.model.specs.Book.{Book, Grid, cell, seats, windows, instance_of, SheetOf, Lawful, Idle, NoneIdle}
use Rattle.model.specs.Book.{is_sheet, is_lawful, all_zero, is_idle}
use Rattle.model.proofs.Tests.{and-true, true-not-false}
use Rattle.model.proofs.Tests as tests
use Rattle.model.proofs.Lowest.{Fails, lowest-none, lowest-fails}

-- no number below n passes
pub none_passes : (n : ℕ) (test : ℕ → Bool) → (not (is_some (lowest n test)) ≡ true) ↔ Fails n test
none_passes n test = (λ e. lowest-none n test (at (lowest n test) e), λ f. ap (λ o. not (is_some o)) (lowest-fails n test f))
  where
    at : (o : Option ℕ) → not (is_some o) ≡ true → o ≡ None
    at None e = refl
    at (Some k) e = absurd (true≢false (sym e))

pub sheet-test : (b : Book) (s : Grid) → (is_sheet b s ≡ true) ↔ SheetOf b s
unfolding is_sheet
sheet-test b s = (to, from)
  where
    uneven : ℕ → Bool
    uneven i = not (eqb (length (get_or s i [])) (windows b))

    to : is_sheet b s ≡ true → SheetOf b s
    to e =
        let parts = (and-true (eqb (length s) (seats b)) (not (is_some (lowest (seats b) uneven)))).0 e in
        record {
          rows = eqb-true _ _ parts.0;
          row = λ i l. eqb-true _ _ (not-false _ ((none_passes (seats b) uneven).0 parts.1 i l));
        }

    from : SheetOf b s → is_sheet b s ≡ true
    from h =
        (and-true _ _).1
        (eq-eqb _ _ h.rows, (none_passes (seats b) uneven).1 (λ i l. ap not (eq-eqb _ _ (h.row i l))))

pub lawful-test : (b : Book) (s : Grid) → (is_lawful b s ≡ true) ↔ Lawful b s
unfolding is_lawful instance_of
lawful-test b s = (to, from)
  where
    above : ℕ → ℕ → Bool
    above i j = ltb (cell b.caps i j) (cell s i j)

    row_above : ℕ → Bool
    row_above i = is_some (lowest (windows b) (above i))

    over : ℕ → Bool
    over j = ltb (get_or b.supplies j 0) (placed (instance_of b) (cell s) j)

    to : is_lawful b s ≡ true → Lawful b s
    to e =
        let parts = (and-true (not (is_some (lowest (seats b) row_above))) (not (is_some (lowest (windows b) over)))).0 e in
        record {
          within = λ i j li lj.
              let row = (none_passes (seats b) row_above).0 parts.0 i li in
              ltb-false _ _ ((none_passes (windows b) (above i)).0 (ap not row) j lj);
          fits = λ j lj. ltb-false _ _ ((none_passes (windows b) over).0 parts.1 j lj);
        }

    from : Lawful b s → is_lawful b s ≡ true
    from h =
        (and-true _ _).1 (
          (none_passes (seats b) row_above).1
              (λ i li. not-true _ ((none_passes (windows b) (above i)).1 (λ j lj. le-ltb _ _ (h.within i j li lj)))),
          (none_passes (windows b) over).1 (λ j lj. le-ltb _ _ (h.fits j lj)),
        )

pub idle-test : (b : Book) (i : ℕ) → (is_idle b i ≡ true) ↔ Idle b i
unfolding all_zero is_idle
idle-test b i = (
  λ e j lj. eqb-true _ _ (not-false _ ((none_passes (windows b) used).0 e j lj)),
  λ h. (none_passes (windows b) used).1 (λ j lj. ap not (eq-eqb _ _ (h j lj))),
)
  where
    used : ℕ → Bool
    used j = not (eqb (cell b.caps i j) 0)

-- no seat is idle
pub none-idle-test : (b : Book) → (lowest (seats b) (is_idle b) ≡ None) ↔ NoneIdle b
none-idle-test b = (
  λ e i li h. true-not-false _ ((idle-test b i).1 h) (lowest-none (seats b) (is_idle b) e i li),
  λ h. lowest-fails (seats b) (is_idle b) (λ i li. tests.not-true _ (λ e. h i li ((idle-test b i).0 e))),
)
