-- A book and a sheet that fit, written and read, are the same: no line of the table turns the file away.
-- Assumes nothing.
use mathlib.Core.Bool.{Bool, true, false, true≢false, not, cond, ◌&&◌}
use mathlib.Core.List.{List, [], ◌∷◌, ◌++◌}
use Rattle.std.specs.Prelude.{Option, None, Some}
use mathlib.Core.Path.{◌≡◌, refl, sym, ◌∙◌, ap, ap₂}
use Prim.Native.Nat.{ℕ, zero, suc, ◌+◌, ◌-◌, ◌*◌, ◌%◌, ◌≤◌, ◌<◌, zero-le}
use native.Mathlib.Omega.{arith}
use lib.Dec.{eqb}
use lib.ListN.{length, get_or}
use borrow.Author.Tests.{eq-eqb, le-ltb}
use Rattle.model.specs.Lowest.{lowest, when, or_else, and_then}
use Rattle.model.specs.Book.{Book, Grid, Shaped, seats, windows}
use Rattle.model.proofs.Lowest.{lowest-fails}
use Rattle.dayfile.specs.Bounds.{Fit, FirstFit, BalancesFit, WeightsFit, SheetFit}
use Rattle.dayfile.specs.Layout.{field, count, contents_end, kind, start, size, ends, seats_in, windows_in, kind_at, start_at, size_at}
use Rattle.dayfile.specs.Layout.{entry_of, fields_at, grid_at, grid_in, first_in, balances_in, weights_in, book_of, sheet_of}
use Rattle.dayfile.specs.File.{Part, part, parts_of, flat_if, one_if, opt_part, opt_parts, flat, assemble, file_of}
use Rattle.dayfile.specs.Table.{first_of, within, offset, known, kind_right, size_right, grid_right, number_right, wrong_field, outside}
use Rattle.dayfile.specs.Table.{line1, line2, line3, line4, line5, line6, line7, line8, line9, line10, line11, line12}
use Rattle.dayfile.specs.Table.{wrong_fields, line18, line19, line20, contents_lines, length_lines, value_lines, option_lines, read_lines}
use Rattle.dayfile.proofs.Tests.{is_within, within_low, within-high, rises-within, after-low, after-high, after-rises, cond_no}
use Rattle.dayfile.proofs.Search.{right-same}
use Rattle.dayfile.proofs.Fields.{fields-at}
use Rattle.dayfile.proofs.Grids.{flat-length, flat-cell, grid-there}
use Rattle.dayfile.proofs.Container.{nth, before-none, before-all, file-size, count-is, kind_is, start_is, size_is, ends_is, body_is}
use Rattle.dayfile.proofs.Rising.{InOrder, split-first}
use Rattle.dayfile.proofs.Sound.{listed}
use Rattle.dayfile.proofs.Optional.{Above, above-opt, above-next, Each, each-nth, each-opt, IfThere, few-opt}
use Rattle.dayfile.proofs.Optional.{length_if, BodyAt, Looked, look}

-- each number of a list is right
abbrev pub AllRight : ℕ → ℕ → Bool → List ℕ → Type 0
AllRight low high rising xs = (i : ℕ) → i < length xs → number_right low high rising (λ k. get_or xs k 0) i ≡ true

-- the fields of an offset are the numbers of a list
pub same-right : (f : List ℕ) (at low high : ℕ) (rising : Bool) (xs : List ℕ) → fields_at f at (length xs) ≡ xs → (i : ℕ) → i < length xs
    → number_right low high rising (λ k. field f (at + 2 * k)) i ≡ number_right low high rising (λ k. get_or xs k 0) i
same-right f at low high rising xs q i l =
    right-same low high rising (λ k. field f (at + 2 * k)) (λ k. get_or xs k 0) i
    (λ k h. sym (fields-at f at (length xs) k (omega arith)) ∙ ap (λ (ys : List ℕ). get_or ys k 0) q)

-- fields that are all right
right-none : (f : List ℕ) (at n low high : ℕ) (rising : Bool) (xs : List ℕ)
    → n ≡ length xs → fields_at f at (length xs) ≡ xs → AllRight low high rising xs → wrong_field f at n low high rising ≡ None
unfolding wrong_field
right-none f at n low high rising xs e q h =
    ap (offset (λ i. at + 2 * i))
    (lowest-fails n (λ i. not (number_right low high rising (λ k. field f (at + 2 * k)) i))
    (λ i p. ap not (same-right f at low high rising xs q i (omega arith) ∙ h i (omega arith))))

-- fields that are all low to high
outside-none : (f : List ℕ) (at n low high : ℕ) (xs : List ℕ)
    → n ≡ length xs → fields_at f at (length xs) ≡ xs → AllRight low high false xs → outside f at n low high ≡ None
outside-none f at n low high xs e q h = right-none f at n low high false xs e q h

-- ---- a body that may be missing: what its line says, by its numbers

-- n numbers, each of them right
abbrev pub ListFit : ℕ → ℕ → ℕ → Bool → List ℕ → Type 0
ListFit n low high rising xs = (length xs ≡ n) × AllRight low high rising xs

module _ (ps : List Part) (k n low high : ℕ) (rising : Bool) where
  -- its line does not hold where it fits
  fits-none : (r : Option ℕ) (o : Option (List ℕ)) → BodyAt ps k r o → IfThere (ListFit n low high rising) o
      → and_then r (wrong_fields (assemble (length ps) ps) n low high rising) ≡ None
  unfolding wrong_fields
  fits-none None None h g = refl
  fits-none None (Some xs) h g = absurd h
  fits-none (Some e) None h g = absurd h
  fits-none (Some e) (Some xs) h g =
      let file : List ℕ = assemble (length ps) ps in
      let long = size_is (length ps) ps refl e h.0 ∙ ap (λ (ys : List ℕ). 2 * length ys) h.1 ∙ ap (λ (i : ℕ). 2 * i) g.0 in
      let there = body_is (length ps) ps refl e h.0 in
      let body = ap (λ (ys : List ℕ). fields_at file (start file e) (length ys)) (sym h.1) ∙ there ∙ h.1 in
      ap (λ (t : Bool). or_else (when (not t) (size_at e)) (wrong_field file (start file e) n low high rising))
      (eq-eqb (size file e) (2 * n) long)
      ∙ right-none file (start file e) n low high rising xs (sym g.0) body g.1

  -- and nowhere else
  pub none-fits : (r : Option ℕ) (o : Option (List ℕ)) → BodyAt ps k r o
      → and_then r (wrong_fields (assemble (length ps) ps) n low high rising) ≡ None → IfThere (ListFit n low high rising) o
  none-fits None None h g = tt
  none-fits None (Some xs) h g = absurd h
  none-fits (Some e) None h g = absurd h
  none-fits (Some e) (Some xs) h g =
      let file : List ℕ = assemble (length ps) ps in
      let told = listed file n low high rising e g in
      let size = size_is (length ps) ps refl e h.0 ∙ ap (λ (ys : List ℕ). 2 * length ys) h.1 in
      let long : length xs ≡ n = omega (arith, told.long) in
      let there = body_is (length ps) ps refl e h.0 in
      let body = ap (λ (ys : List ℕ). fields_at file (start file e) (length ys)) (sym h.1) ∙ there ∙ h.1 in (
        long,
        λ i l. sym (same-right file (start file e) low high rising xs body i l) ∙ told.fields i (omega arith),
      )

-- a first seat is one number
seat-list : (n : ℕ) (k : Option ℕ) → FirstFit n k → IfThere (ListFit 1 1 n false) (one_if k)
seat-list n None h = tt
seat-list n (Some x) h = (refl, one)
  where
    one : AllRight 1 n false (x ∷ [])
    one zero l = is_within 1 n x h.0 h.1
    one (suc i) l = absurd (omega arith)

pub list-seat : (n : ℕ) (k : Option ℕ) → IfThere (ListFit 1 1 n false) (one_if k) → FirstFit n k
list-seat n None h = tt
list-seat n (Some x) h = let v = h.1 0 (omega arith) in (within_low 1 n x v, within-high 1 n x v)

-- balances are one number for each seat
balances-list : (n : ℕ) (o : Option (List ℕ)) → BalancesFit n o → IfThere (ListFit n 0 50000 false) o
balances-list n None h = tt
balances-list n (Some xs) h =
    let long = h.0 in (long, λ i l. is_within 0 50000 (get_or xs i 0) zero-le (h.1 i (omega arith)))

pub list-balances : (n : ℕ) (o : Option (List ℕ)) → IfThere (ListFit n 0 50000 false) o → BalancesFit n o
list-balances n None h = tt
list-balances n (Some xs) h =
    let long = h.0 in (long, λ i l. within-high 0 50000 (get_or xs i 0) (h.1 i (omega arith)))

-- weights are eight numbers that rise
weights-list : (o : Option (List ℕ)) → WeightsFit o → IfThere (ListFit 8 1 1000 true) o
weights-list None h = tt
weights-list (Some ws) h = (h.0, each)
  where
    each : AllRight 1 1000 true ws
    each zero l =
        let b = h.1 0 (omega arith) in rises-within 1 1000 0 (get_or ws 0 0) b.0 b.0 b.1
    each (suc k) l =
        let long = h.0 in
        let b = h.1 (suc k) (omega arith) in rises-within 1 1000 (get_or ws k 0) (get_or ws (suc k) 0) (h.2 k (omega arith)) b.0 b.1

pub list-weights : (o : Option (List ℕ)) → IfThere (ListFit 8 1 1000 true) o → WeightsFit o
list-weights None h = tt
list-weights (Some ws) h =
    let long = h.0 in (
      long,
      λ k l. let r = h.1 k (omega arith) in (after-low 1 1000 _ (get_or ws k 0) r, after-high 1 1000 _ (get_or ws k 0) r),
      λ k l. after-rises 1 1000 (get_or ws k 0) (get_or ws (suc k) 0) (h.1 (suc k) (omega arith)),
    )

-- kinds 3 and 4 have grids of n numbers
abbrev GridPart : ℕ → Part → Type 0
GridPart n p = within 3 4 p.sort ≡ true → length p.body ≡ n

sheet-grid : (b : Book) (o : Option Grid) → SheetFit b o
    → IfThere (λ xs. GridPart (seats b * windows b) (part 4 xs)) (flat_if o)
sheet-grid b None s = tt
sheet-grid b (Some g) s = λ h. flat-length (seats b) (windows b) g s

-- and the kinds after them have none
no-grid : (n k : ℕ) → within 3 4 k ≡ false → (o : Option (List ℕ)) → IfThere (λ xs. GridPart n (part k xs)) o
no-grid n k e None = tt
no-grid n k e (Some xs) = λ h. absurd (true≢false (sym h ∙ e))

module _ (b : Book) (o : Option Grid) where
  abbrev ps : List Part
  ps = part 1 b.classes ∷ part 2 b.supplies ∷ part 3 (flat b.caps) ∷ opt_parts b o

  abbrev f : List ℕ
  f = assemble (length ps) ps

  abbrev S : ℕ
  S = seats b

  abbrev W : ℕ
  W = windows b

  -- ---- the parts that may be missing

  abbrev end : List Part
  end = opt_part 7 b.weights ++ []

  abbrev last : List Part
  last = opt_part 6 b.balances ++ end

  abbrev tail : List Part
  tail = opt_part 5 (one_if b.first) ++ last

  end-above : Above 7 end
  end-above = above-opt 7 b.weights [] (omega arith) tt

  last-above : Above 6 last
  last-above = above-opt 6 b.balances end (omega arith) end-above

  tail-above : Above 5 tail
  tail-above = above-opt 5 (one_if b.first) last (omega arith) last-above

  rising : Above 4 (opt_parts b o)
  unfolding opt_parts
  rising = above-opt 4 (flat_if o) tail (omega arith) tail-above

  few : length ps ≤ known
  unfolding opt_parts
  few =
      let e = few-opt 4 (flat_if o) tail in
      let g = few-opt 5 (one_if b.first) last in
      let h = few-opt 6 b.balances end in let i = few-opt 7 b.weights [] in omega arith

  -- ---- the file

  count-f : count f ≡ length ps
  count-f = count-is (length ps) ps refl

  kind-f : (e : ℕ) → e < length ps → kind f e ≡ (nth ps e).sort
  kind-f = kind_is (length ps) ps refl

  start-f : (e : ℕ) → e < length ps → start f e ≡ ends f e
  start-f e h = start_is (length ps) ps refl e h ∙ sym (ends_is (length ps) ps refl e (omega arith))

  size-f : (e : ℕ) → e < length ps → size f e ≡ 2 * length (nth ps e).body
  size-f = size_is (length ps) ps refl

  end-f : ends f (length ps) ≡ length f
  end-f =
      ends_is (length ps) ps refl (length ps) (omega arith)
      ∙ (let a = file-size (length ps) ps refl in let c = before-all ps in omega arith)

  body-f : (e : ℕ) → e < length ps → fields_at f (start f e) (length (nth ps e).body) ≡ (nth ps e).body
  body-f = body_is (length ps) ps refl

  room : contents_end (length ps) ≤ length f
  room = let a = file-size (length ps) ps refl in omega arith

  seats-f : seats_in f ≡ S
  seats-f = let e = size-f 0 (omega arith) in omega arith

  windows-f : windows_in f ≡ W
  windows-f = let e = size-f 1 (omega arith) in omega arith

  kind-after : (e : ℕ) → suc (suc (suc e)) < length ps → kind_right f (suc (suc (suc e))) ≡ true
  unfolding kind_right
  kind-after e h =
      let k : ℕ = suc (suc (suc e)) in
      let n = above-next (part 3 (flat b.caps)) (opt_parts b o) rising e (omega arith) in
      let one = kind-f (suc (suc e)) (omega arith) in
      let two = kind-f k h in
      let same = ap (kind f) {x = k - 1} {y = suc (suc e)} (omega arith) in
      sym (cond_no (eqb (kind f k) (k + 1)) (within (kind f (k - 1) + 1) known (kind f k)) (le-ltb k 3 (omega arith)))
      ∙ is_within (kind f (k - 1) + 1) known (kind f k) (omega arith) (omega arith)

  kind-right-f : (e : ℕ) → e < length ps → kind_right f e ≡ true
  unfolding kind_right
  kind-right-f zero h = eq-eqb (kind f 0) 1 (kind-f 0 h)
  kind-right-f (suc zero) h = eq-eqb (kind f 1) 2 (kind-f 1 h)
  kind-right-f (suc (suc zero)) h = eq-eqb (kind f 2) 3 (kind-f 2 h)
  kind-right-f (suc (suc (suc e))) h = kind-after e h

  order-f : InOrder f
  order-f = let c = count-f in record { many = omega arith; right = λ e h. kind-right-f e (omega arith) }

  -- ---- where the parts that may be missing lie

  -- how many fields stand before the sheet's body, before the first seat's, before the balances and before the weights
  abbrev lists : ℕ
  lists = S + W + length (flat b.caps)

  abbrev ahead : ℕ
  ahead = lists + length_if (flat_if o)

  abbrev behind : ℕ
  behind = ahead + length_if (one_if b.first)

  abbrev beyond : ℕ
  beyond = behind + length_if b.balances

  sheet-look : Looked (length ps) ps refl order-f 4 lists (flat_if o) tail
  unfolding opt_parts
  sheet-look =
      look (length ps) ps refl order-f 3 4 lists (flat_if o) tail (split-first f order-f)
      (record {
        long = omega arith;
        same = λ i. ap (nth ps) {x = 3 + i} {y = suc (suc (suc i))} (omega arith);
        ahead = omega (arith, before-none (opt_parts b o));
      }) tail-above

  first-look : Looked (length ps) ps refl order-f 5 ahead (one_if b.first) last
  first-look =
      look (length ps) ps refl order-f sheet-look.next 5 ahead (one_if b.first) last sheet-look.split sheet-look.tail last-above

  balances-look : Looked (length ps) ps refl order-f 6 behind b.balances end
  balances-look =
      look (length ps) ps refl order-f first-look.next 6 behind b.balances end first-look.split first-look.tail end-above

  weights-look : Looked (length ps) ps refl order-f 7 beyond b.weights []
  weights-look =
      look (length ps) ps refl order-f balances-look.next 7 beyond b.weights [] balances-look.split balances-look.tail tt

  -- a body of one number
  one-f : (e x : ℕ) → e < length ps → (nth ps e).body ≡ x ∷ [] → field f (start f e) ≡ x
  one-f e x h q =
      let at : ℕ = start f e in
      let n : ℕ = length (nth ps e).body in
      let long = ap (λ (xs : List ℕ). length xs) q in
      ap (field f) {x = at} {y = at + 2 * 0} (omega arith)
      ∙ sym (fields-at f at n 0 (omega arith))
      ∙ ap (λ (xs : List ℕ). get_or xs 0 0) (body-f e h ∙ q)

  -- how many seats its lines go by, and where the bodies of the first seat, of the balances and of the weights lie
  pub written-seats : seats_in (file_of b o) ≡ seats b
  unfolding file_of parts_of
  written-seats = seats-f

  pub first-at : BodyAt (parts_of b o) (seats b + windows b + length (flat b.caps) + length_if (flat_if o)) (entry_of (file_of b o) 5)
      (one_if b.first)
  unfolding file_of parts_of
  first-at = first-look.body

  pub balances-at : BodyAt (parts_of b o)
      (seats b + windows b + length (flat b.caps) + length_if (flat_if o) + length_if (one_if b.first)) (entry_of (file_of b o) 6)
      b.balances
  unfolding file_of parts_of
  balances-at = balances-look.body

  pub weights-at : BodyAt (parts_of b o)
      (seats b + windows b + length (flat b.caps) + length_if (flat_if o) + length_if (one_if b.first) + length_if b.balances)
      (entry_of (file_of b o) 7) b.weights
  unfolding file_of parts_of
  weights-at = weights-look.body

  module _ (fit : Fit b) (sheet : SheetFit b o) where
    -- ---- the parts that may be missing

    grids : Each (GridPart (S * W)) (opt_parts b o)
    unfolding opt_parts
    grids =
        each-opt (GridPart (S * W)) 4 (flat_if o) tail (sheet-grid b o sheet)
        (each-opt (GridPart (S * W)) 5 (one_if b.first) last (no-grid (S * W) 5 refl (one_if b.first))
        (each-opt (GridPart (S * W)) 6 b.balances end (no-grid (S * W) 6 refl b.balances)
        (each-opt (GridPart (S * W)) 7 b.weights [] (no-grid (S * W) 7 refl b.weights) tt)))

    cells : seats_in f * windows_in f ≡ S * W
    cells = ap₂ (λ (x y : ℕ). x * y) seats-f windows-f

    caps-f : length (flat b.caps) ≡ S * W
    caps-f = flat-length S W b.caps fit.cap_shape

    -- ---- line by line: contents

    at1 : line1 f ≡ None
    unfolding line1
    at1 = let r = room in ap (λ (t : Bool). when t (length f)) (le-ltb (length f) 2 (omega arith))

    at2 : line2 f ≡ None
    unfolding line2
    at2 =
        ap (λ (t : Bool). when (not t) 0)
        (ap (within 3 known) count-f ∙ is_within 3 known (length ps) (omega arith) few)

    at3 : line3 f ≡ None
    unfolding line3
    at3 =
        let r = room in
        let e = count-f in ap (λ (t : Bool). when t (length f)) (le-ltb (length f) (contents_end (count f)) (omega arith))

    -- a test that each entry passes
    none-at : (at : ℕ → ℕ) (right : ℕ → Bool) → ((e : ℕ) → e < length ps → right e ≡ true)
        → offset at (lowest (count f) (λ e. not (right e))) ≡ None
    none-at at right h =
        let c = count-f in ap (offset at) (lowest-fails (count f) (λ e. not (right e)) (λ e l. ap not (h e (omega arith))))

    at4 : line4 f ≡ None
    unfolding line4
    at4 = none-at kind_at (kind_right f) kind-right-f

    at5 : line5 f ≡ None
    unfolding line5
    at5 = none-at start_at (λ e. eqb (start f e) (ends f e)) (λ e h. eq-eqb (start f e) (ends f e) (start-f e h))

    at6 : line6 f ≡ None
    unfolding line6
    at6 =
        ap (λ (t : Bool). when (not t) (length f)) (eq-eqb (ends f (count f)) (length f) (ap (ends f) count-f ∙ end-f))

    -- ---- body lengths

    even-right : (low high n : ℕ) → low ≤ 2 * n → 2 * n ≤ high → size_right low high (2 * n) ≡ true
    unfolding size_right
    even-right low high n h k =
        ap₂ (λ (x y : Bool). x && y) (is_within low high (2 * n) h k) (eq-eqb (2 * n % 2) 0 (omega arith))

    size_none : (e high n : ℕ) → size f e ≡ 2 * n → 1 ≤ n → 2 * n ≤ high → when (not (size_right 2 high (size f e))) (size_at e) ≡ None
    size_none e high n q l h =
        ap (λ (t : Bool). when (not t) (size_at e)) (ap (size_right 2 high) q ∙ even-right 2 high n (omega arith) h)

    at7 : line7 f ≡ None
    unfolding line7
    at7 = size_none 0 64 S (size-f 0 (omega arith)) fit.seats_low (omega (arith, fit.seats_high))

    at8 : line8 f ≡ None
    unfolding line8
    at8 = size_none 1 48 W (size-f 1 (omega arith)) fit.windows_low (omega (arith, fit.windows_high))

    grid-if : (e : ℕ) → e < length ps → (t : Bool) → within 3 4 (nth ps e).sort ≡ t
        → (within 3 4 (nth ps e).sort ≡ true → length (nth ps e).body ≡ S * W)
        → cond t (eqb (size f e) (2 * (seats_in f * windows_in f))) true ≡ true
    grid-if e h false q g = refl
    grid-if e h true q g =
        eq-eqb (size f e) (2 * (seats_in f * windows_in f)) (let a = size-f e h in let l = g q in let c = cells in omega arith)

    grid-part : (e : ℕ) → e < length ps → GridPart (S * W) (nth ps e)
    grid-part zero h = λ q. let z : ◌≡◌ {A = ℕ} 0 1 = cc in absurd (omega arith)
    grid-part (suc zero) h = λ q. let z : ◌≡◌ {A = ℕ} 0 1 = cc in absurd (omega arith)
    grid-part (suc (suc zero)) h = λ q. caps-f
    grid-part (suc (suc (suc e))) h = each-nth (GridPart (S * W)) (opt_parts b o) grids e (omega arith)

    grid-right-f : (e : ℕ) → e < length ps → grid_right f e ≡ true
    unfolding grid_right
    grid-right-f e h =
        ap (λ (k : ℕ). cond (within 3 4 k) (eqb (size f e) (2 * (seats_in f * windows_in f))) true) (kind-f e h)
        ∙ grid-if e h (within 3 4 (nth ps e).sort) refl (grid-part e h)

    at9 : line9 f ≡ None
    unfolding line9
    at9 = none-at size_at (grid_right f) grid-right-f

    -- ---- values

    at10 : line10 f ≡ None
    unfolding line10
    at10 =
        outside-none f (start f 0) (seats_in f) 1 8 b.classes seats-f (body-f 0 (omega arith))
        (λ i h. is_within 1 8 (get_or b.classes i 0) (fit.class_low i h) (fit.class_high i h))

    at11 : line11 f ≡ None
    unfolding line11
    at11 =
        outside-none f (start f 1) (windows_in f) 0 4095 b.supplies windows-f (body-f 1 (omega arith))
        (λ i h. is_within 0 4095 (get_or b.supplies i 0) zero-le (fit.supply_high i h))

    at12 : line12 f ≡ None
    unfolding line12
    at12 =
        outside-none f (start f 2) (seats_in f * windows_in f) 0 4095 (flat b.caps) (cells ∙ sym caps-f) (body-f 2 (omega arith))
        (flat-cell S W b.caps fit.cap_shape (λ x. within 0 4095 x ≡ true)
        (λ i j h k. is_within 0 4095 _ zero-le (fit.cap_high i j h k)))

    -- ---- parts that may be missing

    at18 : line18 f ≡ None
    unfolding line18
    at18 =
        ap (λ (n : ℕ). and_then (entry_of f 5) (wrong_fields f 1 1 n false)) seats-f
        ∙ fits-none ps ahead 1 1 S false (entry_of f 5) (one_if b.first) first-look.body (seat-list S b.first fit.first_seat)

    at19 : line19 f ≡ None
    unfolding line19
    at19 =
        ap (λ (n : ℕ). and_then (entry_of f 6) (wrong_fields f n 0 50000 false)) seats-f
        ∙ fits-none ps behind S 0 50000 false (entry_of f 6) b.balances balances-look.body
        (balances-list S b.balances fit.balances_fit)

    at20 : line20 f ≡ None
    unfolding line20
    at20 =
        fits-none ps beyond 8 1 1000 true (entry_of f 7) b.weights weights-look.body (weights-list b.weights fit.weights_fit)

    no_line : first_of (read_lines f) ≡ None
    unfolding read_lines contents_lines length_lines value_lines option_lines
    no_line = rw (at1, at2, at3, at4, at5, at6, at7, at8, at9, at10, at11, at12, at18, at19, at20)

    -- ---- what the file holds

    abbrev made : List ℕ → List ℕ → Grid → Option ℕ → Option (List ℕ) → Option (List ℕ) → Book
    made x y z k xs ws = record { classes = x; supplies = y; caps = z; first = k; balances = xs; weights = ws }

    seat-at : (r k : Option ℕ) → BodyAt ps ahead r (one_if k) → and_then r (λ e. Some (field f (start f e))) ≡ k
    seat-at None None h = refl
    seat-at None (Some x) h = absurd h
    seat-at (Some e) None h = absurd h
    seat-at (Some e) (Some x) h = ap Some (one-f e x h.0 h.1)

    -- n numbers
    list_at : (k n low high : ℕ) (up : Bool) (r : Option ℕ) (l : Option (List ℕ)) → BodyAt ps k r l → IfThere (ListFit n low high up) l
        → and_then r (λ e. Some (fields_at f (start f e) n)) ≡ l
    list_at k n low high up None None h g = refl
    list_at k n low high up None (Some xs) h g = absurd h
    list_at k n low high up (Some e) None h g = absurd h
    list_at k n low high up (Some e) (Some xs) h g =
        ap Some (ap (fields_at f (start f e)) (sym g.0 ∙ ap length (sym h.1)) ∙ body-f e h.0 ∙ h.1)

    grid-f : (e : ℕ) (g : Grid) → e < length ps → (nth ps e).body ≡ flat g → Shaped S W g
        → grid_in f e ≡ g
    grid-f e g h q s =
        ap₂ (grid_at f (start f e)) seats-f windows-f
        ∙ grid-there f (start f e) S W g s
        (ap (λ (xs : List ℕ). fields_at f (start f e) (length xs)) (sym q) ∙ body-f e h ∙ q)

    book-is : book_of f ≡ b
    unfolding book_of first_in balances_in weights_in
    book-is =
        ap₂ (λ (x y : List ℕ). made x y (grid_in f 2) (first_in f) (balances_in f) (weights_in f))
        (ap (fields_at f (start f 0)) seats-f ∙ body-f 0 (omega arith))
        (ap (fields_at f (start f 1)) windows-f ∙ body-f 1 (omega arith))
        ∙ ap₂ (λ (z : Grid) (k : Option ℕ). made b.classes b.supplies z k (balances_in f) (weights_in f))
        (grid-f 2 b.caps (omega arith) refl fit.cap_shape) (seat-at (entry_of f 5) b.first first-look.body)
        ∙ ap₂ (made b.classes b.supplies b.caps b.first)
        (ap (λ (n : ℕ). and_then (entry_of f 6) (λ e. Some (fields_at f (start f e) n))) seats-f
        ∙ list_at behind S 0 50000 false (entry_of f 6) b.balances balances-look.body
        (balances-list S b.balances fit.balances_fit))
        (list_at beyond 8 1 1000 true (entry_of f 7) b.weights weights-look.body (weights-list b.weights fit.weights_fit))

    -- a grid of a kind that may be missing
    grid-at : (r : Option ℕ) (g : Option Grid) → SheetFit b g → BodyAt ps lists r (flat_if g)
        → and_then r (λ e. Some (grid_in f e)) ≡ g
    grid-at None None p h = refl
    grid-at None (Some g) p h = absurd h
    grid-at (Some e) None p h = absurd h
    grid-at (Some e) (Some g) p h = ap Some (grid-f e g h.0 h.1 p)

    pub written-free : first_of (read_lines (file_of b o)) ≡ None
    unfolding file_of parts_of
    written-free = no_line

    pub written-book : book_of (file_of b o) ≡ b
    unfolding file_of parts_of
    written-book = book-is

    pub written-sheet : sheet_of (file_of b o) ≡ o
    unfolding file_of parts_of sheet_of
    written-sheet = grid-at (entry_of f 4) o sheet sheet-look.body
