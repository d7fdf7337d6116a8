-- From the lines of two files and their days in memory to the contract of the choice. Assumes nothing.
use mathlib.Core.Path.{◌≡◌, refl, sym, ap, ap₂, ◌∙◌}
use mathlib.Core.Bool.{Bool, true}
use mathlib.Core.List.{List}
use mathlib.Core.Logic.{◌↔◌}
use Rattle.std.specs.Prelude.{Option, None, Some}
use Prim.Native.Nat.{ℕ}
use native.Mathlib.Omega.{arith}
use Rattle.fairness.specs.Leximin.{NoHigher, Higher}
use Rattle.model.specs.Book.{Grid}
use Rattle.model.specs.Fair.{profile_of}
use Rattle.dayfile.specs.Layout.{book_of}
use Rattle.dayfile.specs.Table.{refuse, or_refuse, first_of, sheet_lines, pair_lines, better_lines, line17, same_book}
use Rattle.dayfile.specs.Outcome.{answer}
use Rattle.dayfile.proofs.Pairs.{SameParts, same_parts, parts-seats, parts-windows, parts-profile}
use Rattle.dayfile.proofs.Held.{seats-in, windows-in}
use Rattle.dayfile.proofs.Answers.{defined-refusal, defined-answer, answer-none}
use Rattle.dayfile.proofs.Lines.{stop-in, on-after, none-parts}
use Rattle.dayfile.proofs.Tests.{keeps, fails}
use Rattle.dayfile.specs.Bounds.{Fit}
use Rattle.dayfile.specs.Memory.{sized_grid, cells_in, day_book, Reads}
use Rattle.dayfile.specs.declared.Day.{Day}
use Rattle.dayfile.specs.declared.Reading.{Reading}
use Rattle.sheet.specs.Sheets.{grid_of}
use Rattle.lawful.proofs.Readings.{book-read, fit-read, sheet-read}
use Rattle.choice.specs.declared.Choice.{Choice}
use Rattle.choice.specs.declared.Choice.TheVariants.{Refused, First, Second}
use Rattle.better.specs.Choice.{Side, first, second, list_of, side_of, Chooses, handed_back, HandsBack}
use Rattle.better.specs.Steps.{Compared}

pub first-not-second : first ≡ second → ⊥
first-not-second e = let z : ◌≡◌ {A = ℕ} 0 1 = cc in omega arith

-- ---- two days in memory

module _ (d e : Day) where
  -- of one book: the lists of both sheets
  module _ (same : same_book (day_book d) (day_book e) ≡ true) where
    one : SameParts (day_book d) (day_book e)
    one = same_parts (day_book d) (day_book e) same

    cells_same : (grid : Grid) → cells_in d.book grid ≡ cells_in e.book grid
    cells_same grid =
        ap₂ (λ (n m : ℕ). sized_grid n m grid)
        (sym (seats-in d.book (grid_of d.caps)) ∙ parts-seats (day_book d) (day_book e) one ∙ seats-in e.book (grid_of e.caps))
        (sym (windows-in d.book (grid_of d.caps)) ∙ parts-windows (day_book d) (day_book e) one
        ∙ windows-in e.book (grid_of e.caps))

    pub lists-seen : {higher : Bool} →
        ((higher ≡ true)
        ↔ Higher NoHigher (profile_of (day_book d) (cells_in d.book (grid_of d.sheet)))
        (profile_of (day_book d) (cells_in d.book (grid_of e.sheet)))) →
        (higher ≡ true)
        ↔ Higher NoHigher (profile_of (day_book d) (cells_in d.book (grid_of d.sheet)))
        (profile_of (day_book e) (cells_in e.book (grid_of e.sheet)))
    lists-seen is = rw (← cells_same (grid_of e.sheet), ← parts-profile (day_book d) (day_book e) one _) is

-- ---- two files

module _ (f g : List ℕ) where
  -- a line of the first file's
  pub first-refused : (number at : ℕ) → first_of (sheet_lines f) ≡ Some (refuse number at) → Chooses f g (Refused 1 number at)
  unfolding better_lines
  first-refused number at e =
      record {
        defined = defined-refusal (refuse number at) (stop-in (sheet_lines f) _ (refuse number at) e) refl refl;
        whose = rw e refl;
      }

  module _ (passed : first_of (sheet_lines f) ≡ None) where
    -- a line of the second's
    pub second-refused : (number at : ℕ) → first_of (sheet_lines g) ≡ Some (refuse number at) → Chooses f g (Refused 2 number at)
    unfolding better_lines
    second-refused number at e =
        record {
          defined = defined-refusal (refuse number at)
              (on-after (sheet_lines f) _ passed ∙ stop-in (sheet_lines g) (pair_lines f g) (refuse number at) e) refl refl;
          whose = rw (passed, e) refl;
        }

    module _ (passed' : first_of (sheet_lines g) ≡ None) where
      rest : first_of (better_lines f g) ≡ first_of (pair_lines f g)
      unfolding better_lines
      rest = on-after (sheet_lines f) _ passed ∙ on-after (sheet_lines g) (pair_lines f g) passed'

      one-book : same_book (book_of f) (book_of g) ≡ true → first_of (pair_lines f g) ≡ None
      unfolding pair_lines line17
      one-book e = ap (λ (o : Option ℕ). or_refuse 17 o None) (sym (keeps 0 refl e))

      -- neither: line 17, or the list that is higher
      pub compared : (c : Choice) → Compared (same_book (book_of f) (book_of g)) (list_of f) (list_of g) c → Chooses f g c
      unfolding pair_lines line17
      compared (Refused file number at) h =
          rw (h.1.0, h.1.1.0, h.1.1.1)
          record {
            defined = defined-refusal (refuse 17 0)
                (rest ∙ ap (λ (o : Option ℕ). or_refuse 17 o None) (sym (fails 0 refl h.0))) refl refl;
            whose = rw (passed, passed') refl;
          }
      compared First h =
          record {
            defined = defined-answer first (rest ∙ one-book h.0) refl (λ e. absurd (first-not-second e), λ higher. absurd (h.1 higher));
            whose = tt;
          }
      compared Second h =
          record {
            defined = defined-answer second (rest ∙ one-book h.0) refl (λ e. h.1, λ higher. refl);
            whose = tt;
          }

      -- the same of what was read
      module _ (r q : Reading) (reads : Reads f r) (reads' : Reads g q) where
        pub fit : Fit (day_book r.day)
        fit = rw (book-read f r reads passed) (fit-read f r reads passed)

        pub days-compared : (c : Choice) →
            Compared (same_book (day_book r.day) (day_book q.day))
            (profile_of (day_book r.day) (cells_in r.day.book (grid_of r.day.sheet)))
            (profile_of (day_book q.day) (cells_in q.day.book (grid_of q.day.sheet))) c → Chooses f g c
        days-compared c h =
            compared c
            (rw (book-read f r reads passed, book-read g q reads' passed', sheet-read f r reads passed, sheet-read g q reads' passed') at h)

-- ---- what a choice tells of the lines

module _ (f g : List ℕ) where
  -- one of the two was chosen, so no line of either file holds
  pub lawful_both : (side : Side) (c : Choice) → Chooses f g c → side_of c ≡ answer side →
      (first_of (sheet_lines f) ≡ None) × (first_of (sheet_lines g) ≡ None)
  unfolding better_lines
  lawful_both side c h e =
      let all = none-parts (sheet_lines f) _ (answer-none h.defined side e).0 in
      (all.0, (none-parts (sheet_lines g) (pair_lines f g) all.1).0)

-- the part that goes with the choice
pub hands-back : {f g part : List ℕ} {c x : Choice} → Chooses f g c → c ≡ x → part ≡ handed_back x f g → HandsBack f g part
hands-back {f} {g} {part} {c} {x} h e p =
    record { choice = c; chooses = h; part_is = p ∙ ap (λ (z : Choice). handed_back z f g) (sym e) }
