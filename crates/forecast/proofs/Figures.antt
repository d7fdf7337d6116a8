-- What the steps of the forecast show, from what is read and added up; and what its figures mean. Assumes nothing.
use mathlib.Core.Path.{◌≡◌, refl, sym, ap, ap₂, ◌∙◌}
use mathlib.Core.Bool.{true}
use mathlib.Core.List.{List}
use Rattle.std.specs.Prelude.{None, Some}
use Prim.Native.Nat.{ℕ, min, ◌≤◌, ◌<◌}
use native.Mathlib.Nat.{le_refl}
use native.Mathlib.Decide.{dec_lt}
use native.Mathlib.Omega.{arith}
use lib.ListN.{length, get_or, replicate, get_or-eq_default}
use Rattle.lists.proofs.Arrays.{Filled, filled-made}
use Rattle.lists.proofs.Tables.{table_at, table-length}
use Rattle.fairness.specs.Sums.{sum}
use Rattle.fairness.specs.Instance.{Wasteful, placed}
use Rattle.fairness.specs.Leximin.{table}
use Rattle.fairness.proofs.Sums.{sum-eq}
use Rattle.fairness.proofs.StandardTotals.{placed-most}
use Rattle.model.specs.Book.{Book, Grid, Lawful, cell, windows, instance_of}
use Rattle.dayfile.specs.declared.Book as Memory
use Rattle.dayfile.specs.declared.Check.TheVariants.{Sound}
use Rattle.dayfile.specs.Layout.{book_of}
use Rattle.dayfile.specs.Table.{Refusal, first_of, planned_length, forecast_lines}
use Rattle.dayfile.specs.Outcome.{turned_away}
use Rattle.dayfile.specs.Memory.{sized, book_in, file_with, refused}
use Rattle.dayfile.proofs.Answers.{answered, defined-refusal, defined-answer, tells-answer}
use Rattle.dayfile.proofs.Held.{seats-in, windows-in}
use Rattle.dayfile.proofs.Tables.{sized-at, sized-length}
use Rattle.dayfile.proofs.Used.{cap-in, supply_in, planned-size}
use Rattle.forecast.specs.declared.Foretold.{Foretold}
use Rattle.forecast.specs.Forecasting.{will_place, Figures, figures_of, figures, foretold, Forecasts}

-- ---- what will be placed, of a book in memory

module _ (m : Memory.Book) (caps : Grid) where
  placed-in : (j : ℕ) → j < m.windows →
      min (get_or m.supplies j 0) (sum m.seats (λ i. cell caps i j)) ≡ will_place (book_in m caps) j
  placed-in j lj =
      ap₂ min (sym (supply_in m caps j lj))
      (sum-eq m.seats _ _ (λ i li. sym (cap-in m caps i j li lj))
      ∙ ap (λ (n : ℕ). sum n (λ i. cell (book_in m caps).caps i j)) (sym (seats-in m caps)))

  -- an array of zeros, filled window by window with the lesser of the supply and the caps added together
  pub all_placed : (sums : List ℕ) → ((j : ℕ) → j < m.windows → get_or sums j 0 ≡ sum m.seats (λ i. cell caps i j)) →
      {i : ℕ} {xs : List ℕ} →
      Filled (λ k x. x ≡ min (get_or m.supplies k 0) (get_or sums k 0)) 0 24 m.windows (replicate 24 0) i xs → m.windows ≤ i →
      xs ≡ (figures_of (book_in m caps)).placed
  unfolding figures_of sized
  all_placed sums are {i} {xs} f l =
      let b : Book = book_in m caps in
      let filled : Filled (λ k x. x ≡ will_place b k) 0 24 m.windows (replicate 24 0) i xs = record {
        room = f.room;
        within = f.within;
        size = f.size;
        entry = λ k lk.
            let in-book : k < m.windows = omega (arith, f.within) in
            f.entry k lk ∙ ap (min (get_or m.supplies k 0)) (are k in-book) ∙ placed-in k in-book;
        rest = f.rest;
      } in
      filled-made (λ (x : ℕ). x) 0 (will_place b) m.windows filled l (le_refl _, f.room, λ k lk h. h)
      ∙ ap (λ (n : ℕ). sized 24 (table n (will_place b))) (sym (windows-in m caps))

  -- the length of the planned file, by the caps for a sheet
  pub length-in : length (file_with m caps true caps) ≡ (figures_of (book_in m caps)).length
  unfolding figures_of
  length-in = planned-size m caps caps

-- ---- the answers

abbrev made : ℕ → List ℕ → Figures
made n xs = record { length = n; placed = xs }

module _ (f : List ℕ) where
  -- a line holds
  pub forecast-refused : (r : Foretold) (q : Refusal) → first_of (forecast_lines f) ≡ Some q → foretold r ≡ turned_away q →
      (r.length ≡ 0) × (r.placed ≡ replicate 24 0) → Forecasts f r
  forecast-refused r q e is zeros = record { defined = defined-refusal q e is refl; zeros = λ p h. zeros }

  -- none does: the figures are those of the file's book, which is in memory
  pub forecast-told : first_of (forecast_lines f) ≡ None → (m : Memory.Book) (caps : Grid) → book_in m caps ≡ book_of f →
      (n : ℕ) (xs : List ℕ) → n ≡ (figures_of (book_in m caps)).length → xs ≡ (figures_of (book_in m caps)).placed →
      Forecasts f (record { check = Sound; length = n; placed = xs })
  forecast-told free m caps same n xs long credits =
      record {
        defined = defined-answer (made n xs) free refl (ap₂ made long credits ∙ ap figures_of same);
        zeros = λ q h. absurd (let z : ◌≡◌ {A = ℕ} 0 1 = cc in omega arith);
      }

-- ---- what the figures mean

-- numbers in an array of zeros: past them it is 0
past : (n : ℕ) (xs : List ℕ) (i : ℕ) → length xs ≤ i → get_or (sized n xs) i 0 ≡ 0
past n xs i l = go (dec_lt i n)
  where
    go : Dec (i < n) → get_or (sized n xs) i 0 ≡ 0
    go (yes h) = sized-at n xs i h ∙ get_or-eq_default xs 0 l
    go (no h) = get_or-eq_default (sized n xs) 0 (omega (arith, sized-length n xs))

module _ (f : List ℕ) (r : Foretold) (h : Forecasts f r) (free : first_of (forecast_lines f) ≡ None) where
  told : figures r ≡ figures_of (book_of f)
  told = let x = tells-answer h.defined free in (answered (refused r.check) (figures r) x.0 x.1.0).1 ∙ x.1.1

  pub length-told : r.length ≡ planned_length (book_of f)
  unfolding figures_of
  length-told = ap (λ (x : Figures). x.length) told

  credits : r.placed ≡ sized 24 (table (windows (book_of f)) (will_place (book_of f)))
  unfolding figures_of
  credits = ap (λ (x : Figures). x.placed) told

  -- a window's number, and past the book's windows 0
  pub placed-told : windows (book_of f) ≤ 24 → (j : ℕ) → j < windows (book_of f) → get_or r.placed j 0 ≡ will_place (book_of f) j
  placed-told few j l =
      ap (λ (xs : List ℕ). get_or xs j 0) credits
      ∙ sized-at 24 _ j (omega arith) ∙ table_at (windows (book_of f)) (will_place (book_of f)) j 0 l

  pub unused-told : (j : ℕ) → windows (book_of f) ≤ j → get_or r.placed j 0 ≡ 0
  unused-told j l =
      let all = table-length (windows (book_of f)) (will_place (book_of f)) in
      ap (λ (xs : List ℕ). get_or xs j 0) credits ∙ past 24 _ j (omega arith)

-- every lawful sheet that is not wasteful places just that
pub sheet-places : (b : Book) (s : Grid) → Lawful b s → (Wasteful (instance_of b) (cell s) → ⊥) → (j : ℕ) → j < windows b →
    placed (instance_of b) (cell s) j ≡ will_place b j
unfolding instance_of
sheet-places b s lawful full j l = placed-most (instance_of b) (cell s) lawful full j l
