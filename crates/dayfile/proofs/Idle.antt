-- Line 22: it holds at the class of the lowest idle seat of a file's book, and is the planner's and the forecast's alone. Assumes nothing.
use mathlib.Core.Path.{◌≡◌, refl, ap, ◌∙◌}
use mathlib.Core.Bool.{false}
use mathlib.Core.List.{List}
use mathlib.Core.Logic.{◌↔◌}
use Rattle.std.specs.Prelude.{None, Some}
use Prim.Native.Nat.{ℕ, ◌<◌}
use Rattle.model.specs.Book.{Idle, NoneIdle, seats, is_idle}
use Rattle.model.proofs.Tests.{not-true}
use Rattle.model.proofs.Lowest.{lowest-is}
use Rattle.model.proofs.Books.{idle-test, none-idle-test}
use Rattle.dayfile.specs.Layout.{book_of}
use Rattle.dayfile.specs.Table.{offset, cell_at, refuse, first_of, line22, idle_lines, forecast_lines}
use Rattle.dayfile.specs.Table.{read_lines, sheet_lines, mark_lines, better_lines, fulfil_lines, write_lines}
use Rattle.dayfile.specs.Table.{contents_lines, length_lines, value_lines, option_lines, marker_lines, row_lines, buffer_lines, pair_lines}
use Rattle.dayfile.proofs.Lines.{on-after, none-parts, numbered}
use Rattle.dayfile.proofs.Search.{offset-none}

module _ (f : List ℕ) where
  -- it holds nowhere exactly where no seat is idle
  pub none-22 : (line22 f ≡ None) ↔ NoneIdle (book_of f)
  unfolding line22
  none-22 = (
    λ e. (none-idle-test (book_of f)).0 (offset-none (cell_at f 0) _ e),
    λ h. ap (offset (cell_at f 0)) ((none-idle-test (book_of f)).1 h),
  )

  -- else at the lowest that is
  pub lowest-22 : (i : ℕ) → i < seats (book_of f) → Idle (book_of f) i → ((k : ℕ) → k < i → Idle (book_of f) k → ⊥) →
      line22 f ≡ Some (cell_at f 0 i)
  unfolding line22
  lowest-22 i li idle before =
      ap (offset (cell_at f 0))
      (lowest-is (seats (book_of f)) (is_idle (book_of f)) i
      (record {
        below = li;
        passes = (idle-test (book_of f) i).1 idle;
        least = λ k lk. not-true _ (λ e. before k lk ((idle-test (book_of f) k).0 e));
      }))

-- ---- the lines of the forecast, and so of the planner but for 16

module _ (f : List ℕ) where
  -- where none holds, none of the reader's does
  pub read-free : first_of (forecast_lines f) ≡ None → first_of (read_lines f) ≡ None
  read-free e = (none-parts (read_lines f) (idle_lines f) e).0

  -- of an accepted file none holds where no seat is idle
  pub forecast-free : first_of (read_lines f) ≡ None → NoneIdle (book_of f) → first_of (forecast_lines f) ≡ None
  unfolding idle_lines
  forecast-free e h = on-after (read_lines f) (idle_lines f) e ∙ rw ((none-22 f).1 h) refl

  -- and else 22 does
  pub forecast-idle : first_of (read_lines f) ≡ None → (i : ℕ) → i < seats (book_of f) → Idle (book_of f) i →
      ((k : ℕ) → k < i → Idle (book_of f) k → ⊥) → first_of (forecast_lines f) ≡ Some (refuse 22 (cell_at f 0 i))
  unfolding idle_lines
  forecast-idle e i li idle before = on-after (read_lines f) (idle_lines f) e ∙ rw (lowest-22 f i li idle before) refl

-- ---- no line of another call has this number

module _ (f : List ℕ) where
  pub read-not-22 : numbered 22 (read_lines f) ≡ false
  unfolding read_lines contents_lines length_lines value_lines option_lines idle_lines
  read-not-22 = refl

  pub write-not-22 : (room : ℕ) → numbered 22 (write_lines f room) ≡ false
  unfolding write_lines value_lines option_lines buffer_lines idle_lines
  write-not-22 room = refl

  pub mark-not-22 : (room : ℕ) → numbered 22 (mark_lines f room) ≡ false
  unfolding mark_lines sheet_lines read_lines contents_lines length_lines value_lines option_lines marker_lines buffer_lines idle_lines
  mark-not-22 room = refl

  pub better-not-22 : (g : List ℕ) → numbered 22 (better_lines f g) ≡ false
  unfolding better_lines sheet_lines read_lines contents_lines length_lines value_lines option_lines marker_lines pair_lines idle_lines
  better-not-22 g = refl

  pub fulfil-not-22 : (row : List ℕ) (room : ℕ) → numbered 22 (fulfil_lines f row room) ≡ false
  unfolding fulfil_lines read_lines contents_lines length_lines value_lines option_lines row_lines buffer_lines idle_lines
  fulfil-not-22 row room = refl
