-- The book and the sheet of a file that no line turns away are within paper 01's bounds; so is a book that the writer's lines take.
-- Assumes nothing.
use mathlib.Core.Bool.{true, false}
use mathlib.Core.List.{List, ◌∷◌}
use Rattle.std.specs.Prelude.{Option, None, Some}
use mathlib.Core.Path.{◌≡◌, refl, sym, ◌∙◌, ap, ap₂}
use Prim.Native.Nat.{ℕ, ◌+◌, ◌*◌, ◌<◌}
use native.Mathlib.Nat.{mul-le-mul_right}
use native.Mathlib.Omega.{arith}
use lib.ListN.{length, get_or}
use Rattle.model.specs.Lowest.{and_then}
use Rattle.model.specs.Book.{Book, Grid, Shaped, cell, seats, windows}
use Rattle.dayfile.specs.Bounds.{Fit, FirstFit, BalancesFit, WeightsFit, SheetFit, TwoByte}
use Rattle.dayfile.specs.Layout.{Bytes, field, start, size, seats_in, windows_in, size_at, entry_of, fields_at, grid_in}
use Rattle.dayfile.specs.Layout.{first_in, balances_in, weights_in, book_of, sheet_of}
use Rattle.dayfile.specs.File.{Part, part, one_if, flat, opt_parts, parts_of, assemble, file_of}
use Rattle.dayfile.specs.Table.{within, first_of, wrong_fields, line7, line8, line10, line11, line12, line18, line19, line20}
use Rattle.dayfile.specs.Table.{value_lines, option_lines, write_lines}
use Rattle.dayfile.proofs.Tests.{low-as, high-as, within_low, within-high}
use Rattle.dayfile.proofs.Lines.{none-holds}
use Rattle.dayfile.proofs.Fields.{field-small, fields-length, fields-at, grid-shaped, grid-cell}
use Rattle.dayfile.proofs.Grids.{flat-length, flat-at}
use Rattle.dayfile.proofs.Container.{nth, size_is, body_is}
use Rattle.dayfile.proofs.Sound.{Sound, FieldsRight, FieldsWithin, Even, even-size, none-outside}
use Rattle.dayfile.proofs.WrittenReads.{same-right, none-fits, list-seat, list-balances, list-weights}
use Rattle.dayfile.proofs.WrittenReads.{written-seats, first-at, balances-at, weights-at}

-- ---- a file that is read

pub seats_are : (f : List ℕ) → seats (book_of f) ≡ seats_in f
unfolding book_of
seats_are f = fields-length f (start f 0) (seats_in f)

pub windows_are : (f : List ℕ) → windows (book_of f) ≡ windows_in f
unfolding book_of
windows_are f = fields-length f (start f 1) (windows_in f)

-- a cell's number is below the number of cells
cell-inside : (n m i j : ℕ) → i < n → j < m → i * m + j < n * m
cell-inside n m i j h k = let l = mul-le-mul_right m h in omega arith

shaped-as : (n m n' m' : ℕ) (g : Grid) → n ≡ n' → m ≡ m' → Shaped n m g → Shaped n' m' g
shaped-as n m n' m' g p q s =
    record { rows = s.rows ∙ p; row = λ i h. s.row i (omega arith) ∙ q }

module _ (f : List ℕ) where
  seat-field : (i : ℕ) → i < seats_in f → get_or (book_of f).classes i 0 ≡ field f (start f 0 + 2 * i)
  unfolding book_of
  seat-field i h = fields-at f (start f 0) (seats_in f) i h

  window-field : (j : ℕ) → j < windows_in f → get_or (book_of f).supplies j 0 ≡ field f (start f 1 + 2 * j)
  unfolding book_of
  window-field j h = fields-at f (start f 1) (windows_in f) j h

  cap_field : (i j : ℕ) → i < seats_in f → j < windows_in f
      → cell (book_of f).caps i j ≡ field f (start f 2 + 2 * (i * windows_in f + j))
  unfolding book_of
  cap_field i j h k = grid-cell f (start f 2) (seats_in f) (windows_in f) i j h k

  grid-fits : (e : ℕ) → Shaped (seats (book_of f)) (windows (book_of f)) (grid_in f e)
  grid-fits e =
      shaped-as (seats_in f) (windows_in f) _ _ (grid_in f e) (sym (seats_are f)) (sym (windows_are f))
      (grid-shaped f (start f e) (seats_in f) (windows_in f))

  pub cap-shaped : Shaped (seats (book_of f)) (windows (book_of f)) (book_of f).caps
  unfolding book_of
  cap-shaped = grid-fits 2

  sheet-shaped : (r : Option ℕ) → SheetFit (book_of f) (and_then r (λ e. Some (grid_in f e)))
  sheet-shaped None = tt
  sheet-shaped (Some e) = grid-fits e

  pub sheet-fits : SheetFit (book_of f) (sheet_of f)
  unfolding sheet_of
  sheet-fits = sheet-shaped (entry_of f 4)

  first-within : (n : ℕ) → n ≡ seats_in f → (r : Option ℕ)
      → ((e : ℕ) → r ≡ Some e → FieldsWithin f (start f e) 1 1 (seats_in f))
      → FirstFit n (and_then r (λ e. Some (field f (start f e))))
  first-within n q None h = tt
  first-within n q (Some e) h =
      let x : ℕ = field f (start f e) in
      let v = ap (λ (i : ℕ). within 1 (seats_in f) (field f i)) {x = start f e} {y = start f e + 2 * 0} (omega arith)
      ∙ h e refl 0 (omega arith) in
      (within_low 1 (seats_in f) x v, omega (arith, q, within-high 1 (seats_in f) x v))

  pub first_fits : Sound f → FirstFit (seats (book_of f)) (book_of f).first
  unfolding book_of first_in
  first_fits s = first-within (seats (book_of f)) (seats_are f) (entry_of f 5) s.first

  balances-within : (n : ℕ) → n ≡ seats_in f → (r : Option ℕ)
      → ((e : ℕ) → r ≡ Some e → FieldsWithin f (start f e) (seats_in f) 0 50000)
      → BalancesFit n (and_then r (λ e. Some (fields_at f (start f e) (seats_in f))))
  balances-within n q None h = tt
  balances-within n q (Some e) h = (
    fields-length f (start f e) (seats_in f) ∙ sym q,
    λ i l. high-as 0 50000 (fields-at f (start f e) (seats_in f) i (omega arith)) (h e refl i (omega arith)),
  )

  pub balances-fits : Sound f → BalancesFit (seats (book_of f)) (book_of f).balances
  unfolding book_of balances_in
  balances-fits s = balances-within (seats (book_of f)) (seats_are f) (entry_of f 6) s.balances

  weights-within : (r : Option ℕ) → ((e : ℕ) → r ≡ Some e → FieldsRight f (start f e) 8 1 1000 true)
      → WeightsFit (and_then r (λ e. Some (fields_at f (start f e) 8)))
  weights-within None h = tt
  weights-within (Some e) h =
      let ws : List ℕ = fields_at f (start f e) 8 in
      let long = fields-length f (start f e) 8 in
      list-weights (Some ws) (
        long,
        λ i l. sym (same-right f (start f e) 1 1000 true ws (ap (fields_at f (start f e)) long) i l) ∙ h e refl i (omega arith),
      )

  pub weights-fits : Sound f → WeightsFit (book_of f).weights
  unfolding book_of weights_in
  weights-fits s = weights-within (entry_of f 7) s.weights

  sheet-small : Bytes f → (r : Option ℕ)
      → TwoByte (book_of f) (and_then r (λ e. Some (grid_in f e)))
  sheet-small by None = tt
  sheet-small by (Some e) = λ i j h k.
      let s = seats_are f in
      let w = windows_are f in
      let c = grid-cell f (start f e) (seats_in f) (windows_in f) i j (omega arith) (omega arith) in
      let l = field-small f by (start f e + 2 * (i * windows_in f + j)) in omega arith

  pub sheet-two-byte : Bytes f → TwoByte (book_of f) (sheet_of f)
  unfolding sheet_of
  sheet-two-byte by = sheet-small by (entry_of f 4)

pub fits : (f : List ℕ) → Sound f → Fit (book_of f)
fits f s =
    let n = seats_are f in
    let m = windows_are f in
    let sl = s.seats_low in
    let sh = s.seats_high in
    let wl = s.windows_low in
    let wh = s.windows_high in
    record {
      seats_low = omega arith;
      seats_high = omega arith;
      windows_low = omega arith;
      windows_high = omega arith;
      class_low = λ i h. low-as 1 8 (seat-field f i (omega arith)) (s.classes i (omega arith));
      class_high = λ i h. high-as 1 8 (seat-field f i (omega arith)) (s.classes i (omega arith));
      supply_high = λ j h. high-as 0 4095 (window-field f j (omega arith)) (s.supplies j (omega arith));
      cap_shape = cap-shaped f;
      cap_high = λ i j h k. high-as 0 4095 (cap_field f i j (omega arith) (omega arith))
          (s.caps (i * windows_in f + j) (cell-inside (seats_in f) (windows_in f) i j (omega arith) (omega arith)));
      first_seat = first_fits f s;
      balances_fit = balances-fits f s;
      weights_fit = weights-fits f s;
    }

-- ---- a book that is written

module _ (b : Book) (o : Option Grid) (shape : Shaped (seats b) (windows b) b.caps) where
  abbrev ps : List Part
  ps = part 1 b.classes ∷ part 2 b.supplies ∷ part 3 (flat b.caps) ∷ opt_parts b o

  abbrev file : List ℕ
  file = assemble (length ps) ps

  size-seats : size file 0 ≡ 2 * seats b
  size-seats = size_is (length ps) ps refl 0 (omega arith)

  size-windows : size file 1 ≡ 2 * windows b
  size-windows = size_is (length ps) ps refl 1 (omega arith)

  -- number i of the body of entry e
  number_at : (e i : ℕ) → e < length ps → i < length (nth ps e).body
      → get_or (nth ps e).body i 0 ≡ field file (start file e + 2 * i)
  number_at e i h k =
      ap (λ (xs : List ℕ). get_or xs i 0) (sym (body_is (length ps) ps refl e h))
      ∙ fields-at file (start file e) (length (nth ps e).body) i k

  -- the values that lines 10, 11 and 12 let pass
  record Values : Type 0 where
    seats-even : Even 2 64 (size file 0)
    windows-even : Even 2 48 (size file 1)
    classes : FieldsWithin file (start file 0) (seats_in file) 1 8
    supplies : FieldsWithin file (start file 1) (windows_in file) 0 4095
    caps : FieldsWithin file (start file 2) (seats_in file * windows_in file) 0 4095
    first : line18 file ≡ None
    balances : line19 file ≡ None
    weights : line20 file ≡ None

  passed : (room : ℕ) → first_of (write_lines file room) ≡ None → Values
  unfolding write_lines value_lines option_lines line7 line8 line10 line11 line12
  passed room e =
      let n = none-holds (write_lines file room) e in
      record {
        seats-even = even-size 2 64 (size file 0) (size_at 0) n.0;
        windows-even = even-size 2 48 (size file 1) (size_at 1) n.1.0;
        classes = none-outside file (start file 0) (seats_in file) 1 8 n.1.1.0;
        supplies = none-outside file (start file 1) (windows_in file) 0 4095 n.1.1.1.0;
        caps = none-outside file (start file 2) (seats_in file * windows_in file) 0 4095 n.1.1.1.1.0;
        first = n.1.1.1.1.1.0;
        balances = n.1.1.1.1.1.1.0;
        weights = n.1.1.1.1.1.1.1.0;
      }

  -- a first seat that line 18 lets pass
  seat-fits : line18 file ≡ None → FirstFit (seats b) b.first
  unfolding line18 file_of parts_of
  seat-fits e =
      list-seat (seats b) b.first
      (none-fits ps _ 1 1 (seats b) false (entry_of file 5) (one_if b.first) (first-at b o)
      (ap (λ (n : ℕ). and_then (entry_of file 5) (wrong_fields file 1 1 n false)) (sym (written-seats b o)) ∙ e))

  -- balances that line 19 lets pass
  carried-fit : line19 file ≡ None → BalancesFit (seats b) b.balances
  unfolding line19 file_of parts_of
  carried-fit e =
      list-balances (seats b) b.balances
      (none-fits ps _ (seats b) 0 50000 false (entry_of file 6) b.balances (balances-at b o)
      (ap (λ (n : ℕ). and_then (entry_of file 6) (wrong_fields file n 0 50000 false)) (sym (written-seats b o)) ∙ e))

  -- weights that line 20 lets pass
  own-fit : line20 file ≡ None → WeightsFit b.weights
  unfolding line20 file_of parts_of
  own-fit e = list-weights b.weights (none-fits ps _ 8 1 1000 true (entry_of file 7) b.weights (weights-at b o) e)

  file-fits : (room : ℕ) → first_of (write_lines file room) ≡ None → Fit b
  unfolding file_of parts_of
  file-fits room free =
      let v = passed room free in
      let s = size-seats in
      let w = size-windows in
      let sl = v.seats-even.least in
      let sh = v.seats-even.most in
      let wl = v.windows-even.least in
      let wh = v.windows-even.most in
      let cells : seats_in file * windows_in file ≡ seats b * windows b = ap₂ (λ (x y : ℕ). x * y) (omega arith) (omega arith) in
      let all = flat-length (seats b) (windows b) b.caps shape in
      record {
        seats_low = omega arith;
        seats_high = omega arith;
        windows_low = omega arith;
        windows_high = omega arith;
        class_low = λ i h. low-as 1 8 (number_at 0 i (omega arith) h) (v.classes i (omega arith));
        class_high = λ i h. high-as 1 8 (number_at 0 i (omega arith) h) (v.classes i (omega arith));
        supply_high = λ j h. high-as 0 4095 (number_at 1 j (omega arith) h) (v.supplies j (omega arith));
        cap_shape = shape;
        cap_high = λ i j h k.
            let l = cell-inside (seats b) (windows b) i j h k in
            high-as 0 4095
            (sym (flat-at (seats b) (windows b) b.caps shape i j h k) ∙ number_at 2 (i * windows b + j) (omega arith) (omega arith))
            (v.caps (i * windows b + j) (omega arith));
        first_seat = seat-fits v.first;
        balances_fit = carried-fit v.balances;
        weights_fit = own-fit v.weights;
      }

  pub taken-fits : (room : ℕ) → first_of (write_lines (file_of b o) room) ≡ None → Fit b
  unfolding file_of parts_of
  taken-fits = file-fits
