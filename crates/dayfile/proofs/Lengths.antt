-- How long a file is, and that it is made of bytes.
-- Assumes nothing.
use mathlib.Core.List.{List, [], ◌∷◌, ◌++◌}
use Rattle.std.specs.Prelude.{Option, None, Some}
use mathlib.Core.Path.{◌≡◌, refl, sym, ◌∙◌, ap}
use Prim.Native.Nat.{ℕ, zero, suc, ◌+◌, ◌*◌, ◌≤◌, ◌<◌}
use native.Mathlib.Nat.{mul-le-mul_left, mul-le-mul_right}
use native.Mathlib.Omega.{arith}
use lib.ListN.{length, get_or, length-append}
use Rattle.fairness.specs.Leximin.{table}
use Rattle.model.specs.Book.{Book, Grid, Shaped, SheetOf, cell, seats, windows}
use Rattle.dayfile.specs.Bounds.{Fit, FirstFit, BalancesFit, WeightsFit, SheetFit, TwoByte, longest_file}
use Rattle.dayfile.specs.Layout.{Bytes, contents_end}
use Rattle.dayfile.specs.File.{Part, part, contents, bodies, fields_of, flat, flat_if, opt_part, opt_parts, parts_of, assemble, file_of}
use Rattle.dayfile.specs.File.{one_if}
use Rattle.dayfile.specs.Table.{planned_length}
use Rattle.dayfile.specs.Memory.{sized_grid}
use Rattle.lists.proofs.Tables.{table-length, table_at}
use Rattle.dayfile.proofs.Tables.{sized-at, sized_row, sized-shaped}
use Rattle.dayfile.proofs.Fields.{bytes_small}
use Rattle.dayfile.proofs.Grids.{flat-length, flat-cell}
use Rattle.dayfile.proofs.Container.{file-size}
use Rattle.dayfile.proofs.Optional.{Each, IfThere, each-opt, entry_if, length_if}

-- ---- the length

pub count-opt : (k : ℕ) (o : Option (List ℕ)) (qs : List Part) → length (opt_part k o ++ qs) ≡ entry_if o + length qs
unfolding opt_part
count-opt k None qs = omega arith
count-opt k (Some xs) qs = omega arith

pub bodies-opt : (k : ℕ) (o : Option (List ℕ)) (qs : List Part) → length (bodies (opt_part k o ++ qs)) ≡ length_if o + length (bodies qs)
unfolding opt_part bodies
bodies-opt k None qs = omega arith
bodies-opt k (Some xs) qs = length-append xs (bodies qs)

pub file-length : (b : Book) (o : Option Grid)
    → length (file_of b o)
    ≡ contents_end (3 + entry_if (flat_if o) + entry_if (one_if b.first) + entry_if b.balances + entry_if b.weights)
    + 2 * (seats b + windows b + length (flat b.caps) + length_if (flat_if o) + length_if (one_if b.first) + length_if b.balances
    + length_if b.weights)
unfolding file_of parts_of opt_parts bodies
file-length b o =
    let end : List Part = opt_part 7 b.weights ++ [] in
    let last : List Part = opt_part 6 b.balances ++ end in
    let tail : List Part = opt_part 5 (one_if b.first) ++ last in
    let ps : List Part = opt_part 4 (flat_if o) ++ tail in
    let all : List Part = part 1 b.classes ∷ part 2 b.supplies ∷ part 3 (flat b.caps) ∷ ps in
    let n = count-opt 4 (flat_if o) tail in
    let s = bodies-opt 4 (flat_if o) tail in
    let i = count-opt 5 (one_if b.first) last in
    let j = bodies-opt 5 (one_if b.first) last in
    let k = count-opt 6 b.balances end in
    let l = bodies-opt 6 b.balances end in
    let v = count-opt 7 b.weights [] in
    let w = bodies-opt 7 b.weights [] in
    let a = length-append b.classes (b.supplies ++ (flat b.caps ++ bodies ps)) in
    let c = length-append b.supplies (flat b.caps ++ bodies ps) in
    let d = length-append (flat b.caps) (bodies ps) in
    let e = file-size (length all) all refl in omega arith

sheet-length : (b : Book) (o : Option Grid) → SheetFit b o → length_if (flat_if o) ≡ entry_if (flat_if o) * (seats b * windows b)
sheet-length b None s = omega arith
sheet-length b (Some g) s = flat-length (seats b) (windows b) g s ∙ omega arith

few-entries : (o : Option Grid) → entry_if (flat_if o) ≤ 1
few-entries None = omega arith
few-entries (Some g) = omega arith

-- a first seat is one entry of one field, or none of none
one-most : (k : Option ℕ) → (entry_if (one_if k) ≤ 1) × (length_if (one_if k) ≤ 1)
one-most None = (omega arith, omega arith)
one-most (Some x) = (omega arith, omega arith)

-- balances are one entry of a field for each seat, or none of none
each-most : (n : ℕ) (o : Option (List ℕ)) → BalancesFit n o → (entry_if o ≤ 1) × (length_if o ≤ n)
each-most n None h = (omega arith, omega arith)
each-most n (Some xs) h = (omega arith, omega (arith, h.0))

-- weights are one entry of eight fields, or none of none
eight-most : (o : Option (List ℕ)) → WeightsFit o → (entry_if o ≤ 1) × (length_if o ≤ 8)
eight-most None h = (omega arith, omega arith)
eight-most (Some ws) h = (omega arith, omega (arith, h.0))

few-cells : (n m : ℕ) → n ≤ 32 → m ≤ 24 → n * m ≤ 768
few-cells n m h k = let a = mul-le-mul_left n k in let b = mul-le-mul_right 24 h in omega arith

pub file-short : (b : Book) (o : Option Grid) → Fit b → SheetFit b o → length (file_of b o) ≤ longest_file
file-short b o fit sheet =
    let e = file-length b o in
    let c = flat-length (seats b) (windows b) b.caps fit.cap_shape in
    let s = sheet-length b o sheet in
    let n = few-entries o in
    let k = one-most b.first in
    let l = each-most (seats b) b.balances fit.balances_fit in
    let w = eight-most b.weights fit.weights_fit in
    let p = few-cells (seats b) (windows b) fit.seats_high fit.windows_high in
    let q = mul-le-mul_right (seats b * windows b) n in
    let sh = fit.seats_high in
    let wh = fit.windows_high in omega (arith, k, l, w)

-- a sheet of whatever cells makes the file as long
pub planned-length : (b : Book) (s : Grid) → Shaped (seats b) (windows b) b.caps → SheetOf b s
    → length (file_of b (Some s)) ≡ planned_length b
unfolding planned_length
planned-length b s shape sheet =
    let n : ℕ = seats b in
    let m : ℕ = windows b in
    let e = file-length b (Some s) in
    let f = file-length b (Some b.caps) in
    let c = flat-length n m b.caps shape in let d = flat-length n m s sheet in omega arith

-- ---- bytes

abbrev Small : List ℕ → Type 0
Small xs = (k : ℕ) → get_or xs k 0 < 65536

small-cons : (x : ℕ) (xs : List ℕ) → x < 65536 → Small xs → Small (x ∷ xs)
small-cons x xs h s zero = h
small-cons x xs h s (suc k) = s k

small-append : (xs ys : List ℕ) → Small xs → Small ys → Small (xs ++ ys)
small-append [] ys p q k = q k
small-append (x ∷ xs) ys p q zero = p 0
small-append (x ∷ xs) ys p q (suc k) = small-append xs ys (λ i. p (suc i)) q k

-- of a list whose numbers are all at most `most`
small-under : (most : ℕ) (xs : List ℕ) → most < 65536 → ((k : ℕ) → k < length xs → get_or xs k 0 ≤ most) → Small xs
small-under most [] h p k = omega arith
small-under most (x ∷ xs) h p zero = omega (arith, p 0 (omega arith))
small-under most (x ∷ xs) h p (suc k) = small-under most xs h (λ i l. p (suc i) (omega arith)) k

-- a part whose kind and numbers are two-byte numbers
abbrev SmallPart : Part → Type 0
SmallPart p = (p.sort < 65536) × Small p.body

contents-small : (at : ℕ) (ps : List Part) → at + 2 * length (bodies ps) < 65536 → Each SmallPart ps → Small (contents at ps)
unfolding contents bodies
contents-small at [] h s = λ k. omega arith
contents-small at (p ∷ ps) h s =
    let e = length-append p.body (bodies ps) in
    let n : ℕ = 2 * length p.body in
    let rest : List ℕ = contents (at + n) ps in
    let r : Small rest = contents-small (at + n) ps (omega arith) s.1 in
    small-cons p.sort (at ∷ n ∷ rest) s.0.0
    (small-cons at (n ∷ rest) (omega arith) (small-cons n rest (omega arith) r))

bodies-small : (ps : List Part) → Each SmallPart ps → Small (bodies ps)
unfolding bodies
bodies-small [] s = λ k. omega arith
bodies-small (p ∷ ps) s = small-append p.body (bodies ps) s.0.1 (bodies-small ps s.1)

sheet-small : (b : Book) (o : Option Grid) → SheetFit b o → TwoByte b o → IfThere (λ xs. SmallPart (part 4 xs)) (flat_if o)
sheet-small b None f t = tt
sheet-small b (Some g) f t = (
  omega arith,
  small-under 65535 (flat g) (omega arith)
      (flat-cell (seats b) (windows b) g f (λ x. x ≤ 65535) (λ i j h k. omega (arith, t i j h k))),
)

first_small : (n : ℕ) (k : Option ℕ) → n ≤ 32 → FirstFit n k → IfThere (λ xs. SmallPart (part 5 xs)) (one_if k)
first_small n None l h = tt
first_small n (Some x) l h = (omega arith, small-cons x [] (omega (arith, h.1)) (λ i. omega arith))

balances-small : (n : ℕ) (o : Option (List ℕ)) → BalancesFit n o → IfThere (λ xs. SmallPart (part 6 xs)) o
balances-small n None h = tt
balances-small n (Some xs) h =
    (omega arith, small-under 50000 xs (omega arith) (λ k l. h.1 k (omega (arith, h.0))))

weights-small : (o : Option (List ℕ)) → WeightsFit o → IfThere (λ ws. SmallPart (part 7 ws)) o
weights-small None h = tt
weights-small (Some ws) h =
    (omega arith, small-under 1000 ws (omega arith) (λ k l. (h.1 k (omega (arith, h.0))).1))

module _ (b : Book) (o : Option Grid) (fit : Fit b) (sheet : SheetFit b o) (two : TwoByte b o) where
  caps-small : Small (flat b.caps)
  caps-small =
      small-under 4095 (flat b.caps) (omega arith)
      (flat-cell (seats b) (windows b) b.caps fit.cap_shape (λ x. x ≤ 4095) fit.cap_high)

  options-small : Each SmallPart (opt_parts b o)
  unfolding opt_parts
  options-small =
      let end : List Part = opt_part 7 b.weights ++ [] in
      let last : List Part = opt_part 6 b.balances ++ end in
      each-opt SmallPart 4 (flat_if o) (opt_part 5 (one_if b.first) ++ last) (sheet-small b o sheet two)
      (each-opt SmallPart 5 (one_if b.first) last (first_small (seats b) b.first fit.seats_high fit.first_seat)
      (each-opt SmallPart 6 b.balances end (balances-small (seats b) b.balances fit.balances_fit)
      (each-opt SmallPart 7 b.weights [] (weights-small b.weights fit.weights_fit) tt)))

  parts-small : Each SmallPart (parts_of b o)
  unfolding parts_of
  parts-small = (
    (omega arith, small-under 8 b.classes (omega arith) fit.class_high),
    (
      (omega arith, small-under 4095 b.supplies (omega arith) fit.supply_high),
      (
        (omega arith, caps-small),
        options-small,
      ),
    ),
  )

  pub file-bytes : Bytes (file_of b o)
  unfolding file_of assemble fields_of
  file-bytes =
      let ps : List Part = parts_of b o in
      let e = file-size (length ps) ps refl in
      let l : length (assemble (length ps) ps) ≤ longest_file = file-short b o fit sheet in
      bytes_small (fields_of (length ps) ps)
      (small-cons (length ps) (contents (contents_end (length ps)) ps ++ bodies ps) (omega arith)
      (small-append (contents (contents_end (length ps)) ps) (bodies ps)
      (contents-small (contents_end (length ps)) ps (omega arith) parts-small) (bodies-small ps parts-small)))

-- ---- a file that is as long as any: 32 seats, 24 windows, a sheet, a first seat, balances and weights

abbrev pub long_book : Book
long_book =
    record {
      classes = table 32 (λ i. 1);
      supplies = table 24 (λ i. 0);
      caps = sized_grid 32 24 [];
      first = Some 1;
      balances = Some (table 32 (λ i. 0));
      weights = Some (table 8 (λ i. i + 1));
    }

abbrev pub long_sheet : Grid
long_sheet = sized_grid 32 24 []

long-seats : seats long_book ≡ 32
long-seats = table-length 32 (λ i. 1)

long-windows : windows long_book ≡ 24
long-windows = table-length 24 (λ i. 0)

zero-cell : (i j : ℕ) → i < 32 → j < 24 → cell long_sheet i j ≡ 0
zero-cell i j h k = ap (λ (r : List ℕ). get_or r j 0) (sized_row 32 24 [] i h) ∙ sized-at 24 [] j k

long-shape : Shaped (seats long_book) (windows long_book) (sized_grid 32 24 [])
long-shape =
    let s = long-seats in
    let w = long-windows in
    let g = sized-shaped 32 24 [] in
    record { rows = g.rows ∙ sym s; row = λ i h. g.row i (omega arith) ∙ sym w }

pub long-fits : Fit long_book
long-fits =
    let s = long-seats in
    let w = long-windows in
    record {
      seats_low = omega arith;
      seats_high = omega arith;
      windows_low = omega arith;
      windows_high = omega arith;
      class_low = λ i h. omega (arith, table_at {A = ℕ} 32 (λ i. 1) i 0 (omega arith));
      class_high = λ i h. omega (arith, table_at {A = ℕ} 32 (λ i. 1) i 0 (omega arith));
      supply_high = λ j h. omega (arith, table_at {A = ℕ} 24 (λ i. 0) j 0 (omega arith));
      cap_shape = long-shape;
      cap_high = λ i j h k. omega (arith, zero-cell i j (omega arith) (omega arith));
      first_seat = (omega arith, omega arith);
      balances_fit = (
        table-length 32 (λ i. 0) ∙ sym s,
        λ i h. omega (arith, table_at {A = ℕ} 32 (λ i. 0) i 0 (omega arith)),
      );
      weights_fit = (
        table-length 8 (λ i. i + 1),
        λ k l. let e = table_at {A = ℕ} 8 (λ i. i + 1) k 0 l in (omega (arith, e), omega (arith, e)),
        λ k l. omega (arith, table_at {A = ℕ} 8 (λ i. i + 1) k 0 (omega arith), table_at {A = ℕ} 8 (λ i. i + 1) (suc k) 0 l),
      );
    }

pub long-sheet-fits : SheetFit long_book (Some long_sheet)
long-sheet-fits = long-shape

pub long-two-byte : TwoByte long_book (Some long_sheet)
long-two-byte i j h k =
    let s = long-seats in let w = long-windows in omega (arith, zero-cell i j (omega arith) (omega arith))

pub long-length : length (file_of long_book (Some long_sheet)) ≡ longest_file
long-length =
    let s = long-seats in
    let w = long-windows in
    let e = file-length long_book (Some long_sheet) in
    let k = table-length {A = ℕ} 32 (λ i. 0) in
    let v = table-length {A = ℕ} 8 (λ i. i + 1) in
    let c = flat-length 32 24 (sized_grid 32 24 []) (sized-shaped 32 24 []) in omega arith
