-- A file that the marker does not refuse holds a lawful sheet of its book. Assumes nothing.
use mathlib.Core.Path.{◌≡◌, refl, ap, subst, ◌∙◌}
use mathlib.Core.Bool.{Bool, not}
use mathlib.Core.List.{List}
use Rattle.std.specs.Prelude.{Option, None, Some}
use Prim.Native.Nat.{ℕ, ◌+◌, ◌*◌, ◌/◌, ◌%◌, ◌≤◌, ◌<◌}
use native.Mathlib.Nat.{mul-zero, mod-lt, div-lt_iff_lt-mul, div-add-mod'}
use native.Mathlib.Decide.{dec_lt}
use native.Mathlib.Omega.{arith}
use lib.Arith.{digits_lt}
use lib.Dec.{ltb}
use lib.ListN.{get_or}
use borrow.Author.Tests.{ltb-false, le-ltb}
use Rattle.fairness.specs.Sums.{sum}
use Rattle.fairness.proofs.Sums.{sum-eq}
use Rattle.model.specs.Lowest.{is_some, when}
use Rattle.model.specs.Book.{Grid, SheetOf, Lawful, cell, seats, windows, instance_of}
use Rattle.model.proofs.Lowest.{lowest-none, lowest-fails}
use Rattle.dayfile.specs.Layout.{field, start, seats_in, windows_in, entry_of, grid_at, book_of, sheet_of}
use Rattle.dayfile.specs.Table.{offset, line13, line14, line15, cell_at, placed_in}
use Rattle.dayfile.specs.Table.{marker_lines}
use Rattle.dayfile.specs.Outcome.{NoneHolds}
use Rattle.dayfile.proofs.Search.{offset-none}
use Rattle.dayfile.proofs.Fields.{fields-length, fields-at, grid-cell, grid-shaped}
use Rattle.dayfile.specs.Layout.{marked_sheet}

-- what was found, if anything was
some_of : {A : Type 0} (o : Option A) → when {A = ℕ} (not (is_some o)) 0 ≡ None → (x : A) × (o ≡ Some x)
some_of (Some x) e = (x, refl)
some_of None e = absurd (let z : ◌≡◌ {A = ℕ} 0 1 = cc in omega arith)

module _ (f : List ℕ) where
  -- the book has as many seats and windows as the file tells
  seats-in : seats (book_of f) ≡ seats_in f
  unfolding book_of
  seats-in = fields-length f (start f 0) (seats_in f)

  windows-in : windows (book_of f) ≡ windows_in f
  unfolding book_of
  windows-in = fields-length f (start f 1) (windows_in f)

  -- the file has an entry of kind 4
  module _ (e : ℕ) (entry : entry_of f 4 ≡ Some e) where
    the-sheet : marked_sheet f ≡ grid_at f (start f e) (seats_in f) (windows_in f)
    unfolding sheet_of
    the-sheet = rw entry refl

    pub entry-sheet : SheetOf (book_of f) (marked_sheet f)
    entry-sheet = rw (the-sheet, seats-in, windows-in) (grid-shaped f (start f e) (seats_in f) (windows_in f))

    -- a cell of the sheet, a cap and a supply, as fields of the file
    sheet-cell : (i j : ℕ) → i < seats_in f → j < windows_in f → cell (marked_sheet f) i j ≡ field f (cell_at f e (i * windows_in f + j))
    sheet-cell i j li lj = ap (λ (g : Grid). cell g i j) the-sheet ∙ grid-cell f (start f e) (seats_in f) (windows_in f) i j li lj

    cap-cell : (i j : ℕ) → i < seats_in f → j < windows_in f →
        cell (book_of f).caps i j ≡ field f (cell_at f 2 (i * windows_in f + j))
    unfolding book_of
    cap-cell i j li lj = grid-cell f (start f 2) (seats_in f) (windows_in f) i j li lj

    supply-at : (j : ℕ) → j < windows_in f → get_or (book_of f).supplies j 0 ≡ field f (cell_at f 1 j)
    unfolding book_of
    supply-at j lj = fields-at f (start f 1) (windows_in f) j lj

    placed_at : (j : ℕ) → j < windows_in f → sum (seats_in f) (λ i. cell (marked_sheet f) i j) ≡ placed_in f e j
    placed_at j lj = sum-eq (seats_in f) _ _ (λ i li. sheet-cell i j li lj)

    -- ---- lines 14 and 15 do not hold exactly where the sheet is lawful

    above : ℕ → Bool
    above k = ltb (field f (cell_at f 2 k)) (field f (cell_at f e k))

    over : ℕ → Bool
    over j = ltb (field f (cell_at f 1 j)) (placed_in f e j)

    pub lines-lawful : line14 f ≡ None → line15 f ≡ None → Lawful (book_of f) (marked_sheet f)
    unfolding instance_of line14 line15 above over
    lines-lawful h14 h15 =
        record {
          within = λ i j li lj. within i j (rw seats-in at li) (rw windows-in at lj);
          fits = λ j lj. fits j (rw windows-in at lj);
        }
      where
        within : (i j : ℕ) → i < seats_in f → j < windows_in f → cell (marked_sheet f) i j ≤ cell (book_of f).caps i j
        within i j li lj =
            rw (sheet-cell i j li lj, cap-cell i j li lj)
            (ltb-false _ _
            (lowest-none (seats_in f * windows_in f) above (offset-none (cell_at f e) _ (rw entry at h14)) (i * windows_in f + j)
            (digits_lt li lj)))

        fits : (j : ℕ) → j < windows_in f → sum (seats (book_of f)) (λ i. cell (marked_sheet f) i j) ≤ get_or (book_of f).supplies j 0
        fits j lj =
            rw (seats-in, supply-at j lj, placed_at j lj)
            (ltb-false _ _ (lowest-none (windows_in f) over (offset-none (cell_at f 1) _ (rw entry at h15)) j lj))

    pub lawful-lines : Lawful (book_of f) (marked_sheet f) → (line14 f ≡ None) × (line15 f ≡ None)
    unfolding instance_of line14 line15 above over
    lawful-lines h = (
      rw entry (ap (offset (cell_at f e)) (lowest-fails (seats_in f * windows_in f) above (λ k lk. le-ltb _ _ (below k lk)))),
      rw entry (ap (offset (cell_at f 1)) (lowest-fails (windows_in f) over (λ j lj. le-ltb _ _ (fits j lj)))),
    )
      where
        fits : (j : ℕ) → j < windows_in f → placed_in f e j ≤ field f (cell_at f 1 j)
        fits j lj = rw (seats-in, supply-at j lj, placed_at j lj) at (h.fits j (rw windows-in lj))

        below : (k : ℕ) → k < seats_in f * windows_in f → field f (cell_at f e k) ≤ field f (cell_at f 2 k)
        below k lk = go (dec_lt 0 (windows_in f))
          where
            go : Dec (0 < windows_in f) → field f (cell_at f e k) ≤ field f (cell_at f 2 k)
            go (no q) =
                let flat : windows_in f ≡ 0 = omega arith in
                absurd (omega (arith, ap (λ (m : ℕ). seats_in f * m) flat, mul-zero (seats_in f)))
            go (yes pos) =
                let i : ℕ = k / windows_in f in
                let j : ℕ = k % windows_in f in
                let li : i < seats_in f = (div-lt_iff_lt-mul pos).1 lk in
                let lj : j < windows_in f = mod-lt k pos in
                subst (λ (x : ℕ). field f (cell_at f e x) ≤ field f (cell_at f 2 x)) (div-add-mod' k (windows_in f))
                (rw (sheet-cell i j li lj, cap-cell i j li lj) at (h.within i j (rw seats-in li) (rw windows-in lj)))

  module _ (none-holds-here : NoneHolds (marker_lines f)) where
    pub has-entry : (e : ℕ) × (entry_of f 4 ≡ Some e)
    unfolding marker_lines line13
    has-entry = some_of (entry_of f 4) none-holds-here.0

    pub has-sheet-of : (s : Grid) × (sheet_of f ≡ Some s)
    unfolding sheet_of
    has-sheet-of =
        let e = has-entry.0 in
        (grid_at f (start f e) (seats_in f) (windows_in f), rw has-entry.1 refl)

    pub accepted-sheet : SheetOf (book_of f) (marked_sheet f)
    accepted-sheet = entry-sheet has-entry.0 has-entry.1

    pub accepted-lawful : Lawful (book_of f) (marked_sheet f)
    unfolding marker_lines
    accepted-lawful = lines-lawful has-entry.0 has-entry.1 none-holds-here.1.0 none-holds-here.1.1.0
