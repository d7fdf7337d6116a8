-- What is held in memory: a book and a sheet that are held and used again are the same.
-- Assumes nothing.
use mathlib.Core.Bool.{Bool, true, false}
use mathlib.Core.List.{List, []}
use Rattle.std.specs.Prelude.{Option, None, Some}
use mathlib.Core.Path.{◌≡◌, refl, sym, ◌∙◌, ap, ap₂}
use Prim.Native.Nat.{ℕ, ◌≤◌}
use native.Mathlib.Omega.{arith}
use lib.ListN.{length}
use Rattle.model.specs.Lowest.{when, is_some, value_or}
use Rattle.model.specs.Book.{Book, Grid, Shaped, seats, windows}
use Rattle.dayfile.specs.Bounds.{Fit, BalancesFit, WeightsFit, SheetFit}
use Rattle.sheet.specs.Sheets.{grid_of}
use Rattle.dayfile.specs.Memory.{sized, sized_grid, Holds, held, book_in, sheet_in, day_book, day_sheet}
use Rattle.dayfile.specs.declared.Book as Memory
use Rattle.dayfile.specs.declared.Day.{Day}
use Rattle.dayfile.proofs.Tables.{sized-length, sized-shaped, sized-again, sized-grid-again}
use Rattle.dayfile.proofs.Optional.{IfThere}

-- ---- what is in memory has its shape

module _ (m : Memory.Book) (caps : Grid) where
  pub seats-in : seats (book_in m caps) ≡ m.seats
  unfolding book_in
  seats-in = sized-length m.seats m.classes

  pub windows-in : windows (book_in m caps) ≡ m.windows
  unfolding book_in
  windows-in = sized-length m.windows m.supplies

  shaped_in : (g : Grid) → Shaped (seats (book_in m caps)) (windows (book_in m caps)) (sized_grid m.seats m.windows g)
  shaped_in g =
      let s = seats-in in
      let w = windows-in in
      let p = sized-shaped m.seats m.windows g in
      record { rows = p.rows ∙ sym s; row = λ i h. p.row i (omega arith) ∙ sym w }

  pub book-shaped : Shaped (seats (book_in m caps)) (windows (book_in m caps)) (book_in m caps).caps
  unfolding book_in
  book-shaped = shaped_in caps

  pub sheet-shaped : (there : Bool) (sheet : Grid) → SheetFit (book_in m caps) (sheet_in m there sheet)
  sheet-shaped false sheet = tt
  sheet-shaped true sheet = shaped_in sheet

-- ---- what is held, used again

again : (n N k : ℕ) (xs ys : List ℕ) → k ≡ n → ys ≡ sized N xs → n ≤ N → length xs ≡ n → sized k ys ≡ xs
again n N k xs ys p q h e = ap₂ sized p q ∙ sized-again n N xs h e

module _ (b : Book) (s : Option Grid) (d : Day) (fit : Fit b) (h : Holds b s d) where
  grid-again : (g : Grid) → Shaped (seats b) (windows b) g → sized_grid d.book.seats d.book.windows (held g) ≡ g
  grid-again g p =
      ap₂ (λ (x y : ℕ). sized_grid x y (held g)) h.seats_are h.windows_are
      ∙ sized-grid-again (seats b) (windows b) 32 24 g fit.seats_high fit.windows_high p

  abbrev made : List ℕ → List ℕ → Grid → Option ℕ → Option (List ℕ) → Option (List ℕ) → Book
  made x y z k xs ws = record { classes = x; supplies = y; caps = z; first = k; balances = xs; weights = ws }

  -- what may be missing, by its flag and its number
  held_first : (k : Option ℕ) (t : Bool) (x : ℕ) → t ≡ is_some k → x ≡ value_or k 0 → when t x ≡ k
  held_first None t x p q = ap (λ (y : Bool). when y x) p
  held_first (Some k) t x p q = ap₂ when p q

  held-list : (n N k : ℕ) → k ≡ n → n ≤ N → (o : Option (List ℕ)) (t : Bool) (xs : List ℕ) → IfThere (λ ys. length ys ≡ n) o
      → t ≡ is_some o → xs ≡ sized N (value_or o []) → when t (sized k xs) ≡ o
  held-list n N k e l None t xs f p q = ap (λ (y : Bool). when y (sized k xs)) p
  held-list n N k e l (Some ys) t xs f p q = ap₂ when p (again n N k ys xs e q l f)

  -- those of a day
  abbrev balances_there : Option (List ℕ)
  balances_there = when d.book.has_balances (sized d.book.seats d.book.balances)

  abbrev weights_there : Option (List ℕ)
  weights_there = when d.book.has_weights (sized 8 d.book.weights)

  each_long : (n : ℕ) (o : Option (List ℕ)) → BalancesFit n o → IfThere (λ ys. length ys ≡ n) o
  each_long n None f = tt
  each_long n (Some ys) f = f.0

  eight-long : (o : Option (List ℕ)) → WeightsFit o → IfThere (λ ys. length ys ≡ 8) o
  eight-long None f = tt
  eight-long (Some ys) f = f.0

  pub held-book : day_book d ≡ b
  unfolding book_in
  held-book =
      ap₂ (λ (x y : List ℕ). made x y (sized_grid d.book.seats d.book.windows (grid_of d.caps))
      (when d.book.has_first d.book.first) balances_there weights_there)
      (again (seats b) 32 d.book.seats b.classes d.book.classes h.seats_are h.classes_are fit.seats_high refl)
      (again (windows b) 24 d.book.windows b.supplies d.book.supplies h.windows_are h.supplies_are
      fit.windows_high refl)
      ∙ ap₂ (λ (z : Grid) (k : Option ℕ). made b.classes b.supplies z k balances_there weights_there)
      (ap (sized_grid d.book.seats d.book.windows) h.caps_are ∙ grid-again b.caps fit.cap_shape)
      (held_first b.first d.book.has_first d.book.first h.has_first_is h.first_is)
      ∙ ap₂ (made b.classes b.supplies b.caps b.first)
      (held-list (seats b) 32 d.book.seats h.seats_are fit.seats_high b.balances d.book.has_balances d.book.balances
      (each_long (seats b) b.balances fit.balances_fit) h.has_balances_is h.balances_are)
      (held-list 8 8 8 refl (omega arith) b.weights d.book.has_weights d.book.weights
      (eight-long b.weights fit.weights_fit) h.has_weights_is h.weights_are)

  pub held-sheet : SheetFit b s → day_sheet d ≡ s
  held-sheet p = go s p h.has_sheet_is h.sheet_is
    where
      go : (o : Option Grid) → SheetFit b o → d.has_sheet ≡ is_some o → grid_of d.sheet ≡ held (value_or o []) → day_sheet d ≡ o
      go None f t g = ap (λ (x : Bool). sheet_in d.book x (grid_of d.sheet)) t
      go (Some o) f t g =
          ap (λ (x : Bool). sheet_in d.book x (grid_of d.sheet)) t
          ∙ ap Some (ap (sized_grid d.book.seats d.book.windows) g ∙ grid-again o f)
