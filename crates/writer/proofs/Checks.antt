-- The writer's lines on a day in memory are the table's lines at the file that would be written.
-- Assumes nothing.
use mathlib.Core.Bool.{Bool, true, false, not, ◌&&◌}
use mathlib.Core.List.{List, [], ◌∷◌, ◌++◌, append_assoc}
use Rattle.std.specs.Prelude.{Option, None, Some}
use mathlib.Core.Path.{◌≡◌, refl, sym, ◌∙◌, ap, ap₂}
use Prim.Native.Nat.{ℕ, ◌+◌, ◌*◌, ◌%◌, ◌≤◌, ◌<◌}
use native.Mathlib.Decide.{dec_le}
use native.Mathlib.Omega.{arith}
use lib.Dec.{leb, eqb}
use lib.ListN.{length, get_or}
use borrow.Author.Tests.{le-leb, lt-leb, eq-eqb}
use Rattle.model.specs.Lowest.{lowest, when, or_else, and_then}
use Rattle.model.specs.Book.{Grid, seats, windows}
use Rattle.sheet.specs.Sheets.{grid_of}
use Rattle.sheet.specs.declared.Sheet.{Sheet}
use Rattle.dayfile.specs.Layout.{field, entries_in, contents_end, start, size, size_at, seats_in, windows_in, entry_of}
use Rattle.dayfile.specs.File.{Part, assemble, flat, flat_if, one_if, parts_of, file_of}
use Rattle.dayfile.specs.Table.{Line, Refusal, line, refuse, first_of, within, offset, size_right, number_right, wrong_field, outside}
use Rattle.dayfile.specs.Table.{wrong_fields, line7, line8, line10, line11, line12, line18, line19, line20}
use Rattle.dayfile.specs.Table.{value_lines, option_lines, buffer_lines, write_lines}
use Rattle.dayfile.specs.Memory.{sized, sized_grid, book_in, sheet_in, file_with, file_in, front, Writes}
use Rattle.dayfile.specs.declared.Book as Memory
use Rattle.dayfile.specs.declared.Day.{Day}
use Rattle.dayfile.specs.declared.Written as Written
use Rattle.dayfile.proofs.Tests.{within-high}
use Rattle.dayfile.proofs.Lines.{stop-in, on-after, none-holds, none-parts, room-short, room-enough}
use Rattle.dayfile.proofs.Answers.{writes-refused, writes-whole}
use Rattle.dayfile.proofs.Search.{wrong-same}
use Rattle.dayfile.proofs.Tables.{sized-length, sized-one}
use Rattle.dayfile.proofs.Fields.{fields-at}
use Rattle.dayfile.proofs.Grids.{sized-flat-length}
use Rattle.dayfile.proofs.Container.{nth, before, start_is, size_is, body_is}
use Rattle.dayfile.proofs.Sound.{kept}
use Rattle.dayfile.proofs.Optional.{length_if, IfThere, BodyAt}
use Rattle.dayfile.proofs.WrittenReads.{written-seats, first-at, balances-at, weights-at}
use Rattle.dayfile.proofs.Held.{seats-in}
use Rattle.store.specs.Stores.{size_if, fields_if, entries, slots_of, slots_in}
use Rattle.store.proofs.Storing.{list-if}
use Rattle.store.proofs.Files.{parts_with, parts-count}
use Rattle.writer.specs.Values.{wrong_in, outside_in}
use Rattle.writer.proofs.Bounds.{wrong-nil}

-- ---- counts and sizes

same_test : (a b c d : ℕ) → (a ≤ b → c ≤ d) → (c ≤ d → a ≤ b) → leb a b ≡ leb c d
same_test a b c d f g =
    elim (dec_le a b) [
      | yes h ↦ le-leb a b h ∙ sym (le-leb c d (f h))
      | no h ↦ lt-leb a b (omega arith) ∙ sym (lt-leb c d (over (λ k. h (g k))))
    ]
  where
    over : (c ≤ d → ⊥) → d < c
    over n = elim (dec_le c d) [ yes k ↦ absurd (n k) | no k ↦ omega arith ]

size-within : (low high n : ℕ) → size_right (2 * low) (2 * high) (2 * n) ≡ within low high n
unfolding size_right
size-within low high n =
    let even : eqb (2 * n % 2) 0 ≡ true = eq-eqb (2 * n % 2) 0 (omega arith) in
    let least = same_test (2 * low) (2 * n) low n (λ h. omega arith) (λ h. omega arith) in
    let most = same_test (2 * n) (2 * high) n high (λ h. omega arith) (λ h. omega arith) in
    ap₂ (λ (x y : Bool). x && y) (ap₂ (λ (x y : Bool). x && y) least most) even
    ∙ and-true (within low high n)
  where
    and-true : (t : Bool) → (t && true) ≡ t
    and-true true = refl
    and-true false = refl

-- ---- the body of an entry, searched in the file and in memory

module _ (first : ℕ) (ps : List Part) (told : entries_in first ≡ length ps) where
  abbrev file : List ℕ
  file = assemble first ps

  body-search : (e : ℕ) → e < length ps → (n at low high : ℕ) (rising : Bool) → n ≡ length (nth ps e).body
      → at ≡ contents_end (length ps) + 2 * before ps e
      → wrong_field (assemble first ps) (start (assemble first ps) e) n low high rising ≡ wrong_in (nth ps e).body at low high rising
  unfolding wrong_field wrong_in
  body-search e h n at low high rising q p =
      let xs : List ℕ = (nth ps e).body in
      let s : ℕ = start file e in
      let st : s ≡ at = start_is first ps told e h ∙ sym p in
      let bad : ℕ → Bool = λ i. not (number_right low high rising (λ k. field file (s + 2 * k)) i) in
      let here : (i : ℕ) → i < length xs → field file (s + 2 * i) ≡ get_or xs i 0 =
      λ i l. sym (fields-at file s (length xs) i l) ∙ ap (λ (ys : List ℕ). get_or ys i 0) (body_is first ps told e h) in
      ap (λ (k : ℕ). offset (λ i. k + 2 * i) (lowest n bad)) st
      ∙ ap (offset (λ i. at + 2 * i))
      (ap (λ (k : ℕ). lowest k bad) q ∙ wrong-same low high rising (λ k. field file (s + 2 * k)) (λ k. get_or xs k 0) (length xs) here)

-- ---- the body of a kind that may be missing

module _ (ps : List Part) (k n low high : ℕ) (rising : Bool) (at : ℕ) (here : at ≡ contents_end (length ps) + 2 * k) where
  -- its numbers alone can be wrong
  body-line : (r : Option ℕ) (o : Option (List ℕ)) → BodyAt ps k r o → IfThere (λ xs. length xs ≡ n) o
      → and_then r (wrong_fields (assemble (length ps) ps) n low high rising) ≡ and_then o (λ xs. wrong_in xs at low high rising)
  unfolding wrong_fields
  body-line None None h l = refl
  body-line None (Some xs) h l = absurd h
  body-line (Some e) None h l = absurd h
  body-line (Some e) (Some xs) h l =
      let f : List ℕ = assemble (length ps) ps in
      let body = ap length h.1 ∙ l in
      let long : size f e ≡ 2 * n = size_is (length ps) ps refl e h.0 ∙ ap (λ (i : ℕ). 2 * i) body in
      ap (λ (x : Bool). or_else (when (not x) (size_at e)) (wrong_field f (start f e) n low high rising)) (eq-eqb (size f e) (2 * n) long)
      ∙ body-search (length ps) ps refl e h.0 n at low high rising (sym body)
      (here ∙ ap (λ (i : ℕ). contents_end (length ps) + 2 * i) (sym h.2))
      ∙ ap (λ (ys : List ℕ). wrong_in ys at low high rising) h.1

-- one that is missing has no numbers
if-there : (t : Bool) (n : ℕ) (src : List ℕ) (at low high : ℕ) (rising : Bool)
    → wrong_in (sized (size_if t n) src) at low high rising ≡ and_then (when t (sized n src)) (λ xs. wrong_in xs at low high rising)
if-there t n src at low high rising = ap (λ (xs : List ℕ). wrong_in xs at low high rising) (list-if t n src) ∙ go t
  where
    go : (u : Bool) → wrong_in (fields_if u (sized n src)) at low high rising
        ≡ and_then (when u (sized n src)) (λ xs. wrong_in xs at low high rising)
    go true = refl
    go false = wrong-nil low high rising at

-- ---- a day

module _ (d : Day) where
  abbrev ps : List Part
  ps = parts_with d.book (grid_of d.caps) d.has_sheet (grid_of d.sheet)

  abbrev f : List ℕ
  f = assemble (length ps) ps

  abbrev n : ℕ
  n = d.book.seats

  abbrev m : ℕ
  m = d.book.windows

  abbrev cells : List ℕ
  cells = flat (sized_grid n m (grid_of d.caps))

  -- the parts that are always there
  record Three : Type 0 where
    many : 3 ≤ length ps
    classes : (nth ps 0).body ≡ sized n d.book.classes
    supplies : (nth ps 1).body ≡ sized m d.book.supplies
    caps : (nth ps 2).body ≡ cells
    first : before ps 0 ≡ 0
    second : before ps 1 ≡ n
    third : before ps 2 ≡ n + m

  three : Three
  unfolding parts_with parts_of book_in
  three =
      let l = sized-length n d.book.classes in
      let k = sized-length m d.book.supplies in
      record {
        many = omega arith;
        classes = refl;
        supplies = refl;
        caps = refl;
        first = refl;
        second = omega arith;
        third = omega arith;
      }

  file-is : f ≡ file_in d
  unfolding file_with file_of parts_with
  file-is = refl

  size_of : (e : ℕ) → e < 3 → (xs : List ℕ) (k : ℕ) → (nth ps e).body ≡ xs → length xs ≡ k → size f e ≡ 2 * k
  size_of e h xs k q l =
      size_is (length ps) ps refl e (omega (arith, three.many)) ∙ ap (λ (ys : List ℕ). 2 * length ys) q ∙ ap (λ (i : ℕ). 2 * i) l

  size-seats : size f 0 ≡ 2 * n
  size-seats = size_of 0 (omega arith) (sized n d.book.classes) n three.classes (sized-length n d.book.classes)

  size-windows : size f 1 ≡ 2 * m
  size-windows = size_of 1 (omega arith) (sized m d.book.supplies) m three.supplies (sized-length m d.book.supplies)

  size-line : (e high k : ℕ) → size f e ≡ 2 * k
      → when (not (size_right 2 (2 * high) (size f e))) (size_at e) ≡ when (not (within 1 high k)) (size_at e)
  size-line e high k q = ap (λ (x : Bool). when (not x) (size_at e)) (ap (size_right 2 (2 * high)) q ∙ size-within 1 high k)

  pub seven : line7 (file_in d) ≡ when (not (within 1 32 d.book.seats)) (size_at 0)
  unfolding line7
  seven = ap line7 (sym file-is) ∙ size-line 0 32 n size-seats

  pub eight : line8 (file_in d) ≡ when (not (within 1 24 d.book.windows)) (size_at 1)
  unfolding line8
  eight = ap line8 (sym file-is) ∙ size-line 1 24 m size-windows

  -- the bounds that lines 7 and 8 let pass
  pub counts-pass : first_of (line 7 (line7 (file_in d)) ∷ line 8 (line8 (file_in d)) ∷ []) ≡ None
      → (d.book.seats ≤ 32) × (d.book.windows ≤ 24)
  counts-pass e =
      let h = none-holds (line 7 (line7 (file_in d)) ∷ line 8 (line8 (file_in d)) ∷ []) e in (
        within-high 1 32 n (kept (within 1 32 n) (size_at 0) (sym seven ∙ h.0)),
        within-high 1 24 m (kept (within 1 24 m) (size_at 1) (sym eight ∙ h.1.0)),
      )

  -- a body that is always there, searched in memory
  search-body : (e : ℕ) → e < 3 → (xs : List ℕ) (k at low high : ℕ) → (nth ps e).body ≡ xs → k ≡ length xs
      → at ≡ contents_end (entries (slots_in d)) + 2 * before ps e → outside f (start f e) k low high ≡ outside_in xs at low high
  search-body e h xs k at low high q l p =
      let c = parts-count d.book (grid_of d.caps) d.has_sheet (grid_of d.sheet) in
      let t = three in
      body-search (length ps) ps refl e (omega (arith, t.many)) k at low high false (l ∙ ap length (sym q)) (omega arith)
      ∙ ap (λ (ys : List ℕ). outside_in ys at low high) q

  -- the first body starts at `at`
  module _ (at : ℕ) (first : at ≡ contents_end (entries (slots_in d))) where
    ten : line10 f ≡ outside_in (sized n d.book.classes) at 1 8
    unfolding line10
    ten =
        let s = size-seats in
        let l = sized-length n d.book.classes in
        search-body 0 (omega arith) (sized n d.book.classes) (seats_in f) at 1 8 three.classes (omega arith)
        (omega (arith, first, three.first))

    eleven : line11 f ≡ outside_in (sized m d.book.supplies) (at + 2 * n) 0 4095
    unfolding line11
    eleven =
        let w = size-windows in
        let l = sized-length m d.book.supplies in
        search-body 1 (omega arith) (sized m d.book.supplies) (windows_in f) (at + 2 * n) 0 4095 three.supplies (omega arith)
        (omega (arith, first, three.second))

    twelve : line12 f ≡ outside_in cells (at + 2 * n + 2 * m) 0 4095
    unfolding line12
    twelve =
        let s = size-seats in
        let w = size-windows in
        let all : seats_in f * windows_in f ≡ n * m = ap₂ (λ (x y : ℕ). x * y) (omega arith) (omega arith) in
        search-body 2 (omega arith) cells (seats_in f * windows_in f) (at + 2 * n + 2 * m) 0 4095 three.caps
        (all ∙ sym (sized-flat-length n m (grid_of d.caps))) (omega (arith, first, three.third))

    pub values-are : value_lines (file_in d)
        ≡ line 10 (outside_in (sized n d.book.classes) at 1 8)
        ∷ line 11 (outside_in (sized m d.book.supplies) (at + 2 * n) 0 4095)
        ∷ line 12 (outside_in cells (at + 2 * n + 2 * m) 0 4095)
        ∷ []
    unfolding value_lines
    values-are = ap value_lines (sym file-is) ∙ rw (ten, eleven, twelve)

-- the lines of values by what the code has at hand
pub values-told : {b : Memory.Book} {caps : Sheet} (d : Day) {at : ℕ} → d.book ≡ b → d.caps ≡ caps
    → at ≡ contents_end (entries (slots_in d))
    → line 10 (outside_in (sized b.seats b.classes) at 1 8)
    ∷ line 11 (outside_in (sized b.windows b.supplies) (at + 2 * b.seats) 0 4095)
    ∷ line 12 (outside_in (flat (sized_grid b.seats b.windows (grid_of caps))) (at + 2 * b.seats + 2 * b.windows) 0 4095)
    ∷ []
    ≡ value_lines (file_in d)
values-told d {at} e f g =
    ap₂ (λ (x : Memory.Book) (y : Sheet).
    line 10 (outside_in (sized x.seats x.classes) at 1 8)
    ∷ line 11 (outside_in (sized x.windows x.supplies) (at + 2 * x.seats) 0 4095)
    ∷ line 12 (outside_in (flat (sized_grid x.seats x.windows (grid_of y))) (at + 2 * x.seats + 2 * x.windows) 0 4095)
    ∷ []) (sym e) (sym f)
    ∙ sym (values-are d at g)

-- ---- the parts that may be missing and are no grids

module _ (m : Memory.Book) (caps : Grid) (t : Bool) (sheet : Grid) where
  abbrev cell_count : ℕ
  cell_count = m.seats * m.windows

  sheet-long : (u : Bool) → length_if (flat_if (sheet_in m u sheet)) ≡ size_if u cell_count
  sheet-long true = sized-flat-length m.seats m.windows sheet
  sheet-long false = refl

  -- where its body starts
  first-starts : {at k : ℕ} → at ≡ contents_end (entries (slots_of m t))
      → k ≡ m.seats + m.windows + m.seats * m.windows + size_if t (m.seats * m.windows)
      → at + 2 * k
      ≡ contents_end (length (parts_of (book_in m caps) (sheet_in m t sheet)))
      + 2 * (seats (book_in m caps) + windows (book_in m caps) + length (flat (book_in m caps).caps)
      + length_if (flat_if (sheet_in m t sheet)))
  unfolding parts_with book_in
  first-starts e q =
      let c = parts-count m caps t sheet in
      let s = sized-length m.seats m.classes in
      let w = sized-length m.windows m.supplies in
      let g = sized-flat-length m.seats m.windows caps in let h = sheet-long t in omega arith

  -- the first seat is one number
  one-there : (u : Bool) → when u (sized 1 (m.first ∷ [])) ≡ one_if (when u m.first)
  one-there true = ap Some (sized-one m.first)
  one-there false = refl

  one-long : (o : Option ℕ) → IfThere (λ xs. length xs ≡ 1) (one_if o)
  one-long None = tt
  one-long (Some x) = refl

  -- line 18 by what the code has at hand
  pub first-told : {at k : ℕ} → at ≡ contents_end (entries (slots_of m t))
      → k ≡ m.seats + m.windows + m.seats * m.windows + size_if t (m.seats * m.windows)
      → outside_in (sized (size_if m.has_first 1) (m.first ∷ [])) (at + 2 * k) 1 m.seats ≡ line18 (file_with m caps t sheet)
  unfolding file_with file_of book_in line18
  first-told {at} {k} e q =
      let p : ℕ = at + 2 * k in
      let f : List ℕ = file_with m caps t sheet in
      if-there m.has_first 1 (m.first ∷ []) p 1 m.seats false
      ∙ ap (λ (o : Option (List ℕ)). and_then o (λ xs. outside_in xs p 1 m.seats)) (one-there m.has_first)
      ∙ sym (body-line (parts_of (book_in m caps) (sheet_in m t sheet)) _ 1 1 m.seats false p (first-starts e q) (entry_of f 5) _
      (first-at (book_in m caps) (sheet_in m t sheet)) (one-long (when m.has_first m.first)))
      ∙ ap (λ (n : ℕ). and_then (entry_of f 5) (wrong_fields f 1 1 n false))
      (sym (written-seats (book_in m caps) (sheet_in m t sheet) ∙ seats-in m caps))

  -- the balances are one number for each seat, behind the first seat, and the weights are eight, behind the balances
  list-long : (n : ℕ) (xs : List ℕ) (u : Bool) → IfThere (λ ys. length ys ≡ n) (when u (sized n xs))
  list-long n xs true = sized-length n xs
  list-long n xs false = tt

  one_size : (u : Bool) → length_if (one_if (when u m.first)) ≡ size_if u 1
  one_size true = refl
  one_size false = refl

  -- line 19 by what the code has at hand
  pub balances-told : {at k one : ℕ} → at ≡ contents_end (entries (slots_of m t))
      → k ≡ m.seats + m.windows + m.seats * m.windows + size_if t (m.seats * m.windows) → one ≡ size_if m.has_first 1
      → outside_in (sized (size_if m.has_balances m.seats) m.balances) (at + 2 * k + 2 * one) 0 50000
      ≡ line19 (file_with m caps t sheet)
  unfolding file_with file_of book_in line19
  balances-told {at} {k} {one} e q r =
      let p : ℕ = at + 2 * k + 2 * one in
      let f : List ℕ = file_with m caps t sheet in
      let b = first-starts e q in
      let l = one_size m.has_first in
      if-there m.has_balances m.seats m.balances p 0 50000 false
      ∙ sym (body-line (parts_of (book_in m caps) (sheet_in m t sheet)) _ m.seats 0 50000 false p (omega arith) (entry_of f 6) _
      (balances-at (book_in m caps) (sheet_in m t sheet)) (list-long m.seats m.balances m.has_balances))
      ∙ ap (λ (n : ℕ). and_then (entry_of f 6) (wrong_fields f n 0 50000 false))
      (sym (written-seats (book_in m caps) (sheet_in m t sheet) ∙ seats-in m caps))

  each-size : (u : Bool) → length_if (when u (sized m.seats m.balances)) ≡ size_if u m.seats
  each-size true = sized-length m.seats m.balances
  each-size false = refl

  -- line 20 by what the code has at hand
  pub weights-told : {at k one each : ℕ} → at ≡ contents_end (entries (slots_of m t))
      → k ≡ m.seats + m.windows + m.seats * m.windows + size_if t (m.seats * m.windows) → one ≡ size_if m.has_first 1
      → each ≡ size_if m.has_balances m.seats
      → wrong_in (sized (size_if m.has_weights 8) m.weights) (at + 2 * k + 2 * one + 2 * each) 1 1000 true
      ≡ line20 (file_with m caps t sheet)
  unfolding file_with file_of book_in line20
  weights-told {at} {k} {one} {each} e q r s =
      let p : ℕ = at + 2 * k + 2 * one + 2 * each in
      let b = first-starts e q in
      let l = one_size m.has_first in
      let i = each-size m.has_balances in
      if-there m.has_weights 8 m.weights p 1 1000 true
      ∙ sym (body-line (parts_of (book_in m caps) (sheet_in m t sheet)) _ 8 1 1000 true p (omega arith)
      (entry_of (file_with m caps t sheet) 7) _ (weights-at (book_in m caps) (sheet_in m t sheet))
      (list-long 8 m.weights m.has_weights))

-- ---- what the writer answers, by where its refusal comes from

module _ (d : Day) where
  abbrev whole : List ℕ
  whole = file_in d

  abbrev pub counts : List Line
  counts = line 7 (line7 (file_in d)) ∷ line 8 (line8 (file_in d)) ∷ []

  -- all lines but 16
  abbrev pub lines_of : List Line
  lines_of = line 7 (line7 (file_in d)) ∷ line 8 (line8 (file_in d)) ∷ (value_lines (file_in d) ++ option_lines (file_in d))

  -- group by group
  pub stop-counts : {q : Refusal} → first_of counts ≡ Some q → first_of lines_of ≡ Some q
  stop-counts {q} e = stop-in counts (value_lines whole ++ option_lines whole) q e

  pub stop-values : {q : Refusal} → first_of counts ≡ None → first_of (value_lines (file_in d)) ≡ Some q → first_of lines_of ≡ Some q
  stop-values {q} e h = on-after counts (value_lines whole ++ option_lines whole) e ∙ stop-in (value_lines whole) (option_lines whole) q h

  pub go_on : first_of counts ≡ None → first_of (value_lines (file_in d)) ≡ None → first_of lines_of ≡ first_of (option_lines (file_in d))
  go_on e h = on-after counts (value_lines whole ++ option_lines whole) e ∙ on-after (value_lines whole) (option_lines whole) h

  lines_are : (room : ℕ) → write_lines whole room ≡ lines_of ++ buffer_lines room (length whole)
  unfolding write_lines
  lines_are room =
      ap (λ (ls : List Line). counts ++ ls) (sym (append_assoc (value_lines whole) (option_lines whole) (buffer_lines room (length whole))))

  pub lines-pass : first_of lines_of ≡ None → (d.book.seats ≤ 32) × (d.book.windows ≤ 24)
  lines-pass e = counts-pass d (none-parts counts (value_lines whole ++ option_lines whole) e).0

  -- what `write` ensures
  abbrev pub Answer : List ℕ → List ℕ → Written.Written → Type 0
  Answer buf end r = Writes (write_lines (file_in d)) (file_in d) buf end r

  -- a line ahead of 16 holds
  pub early : (buf : List ℕ) {n p : ℕ} → first_of lines_of ≡ Some (refuse n p) → Answer buf buf (Written.TheVariants.Refused n p)
  early buf {n} {p} e =
      writes-refused (write_lines whole) whole buf n p
      (ap first_of (lines_are (length buf)) ∙ stop-in lines_of (buffer_lines (length buf) (length whole)) (refuse n p) e)

  late : (room : ℕ) → first_of lines_of ≡ None → first_of (write_lines whole room) ≡ first_of (buffer_lines room (length whole))
  late room e = ap first_of (lines_are room) ∙ on-after lines_of (buffer_lines room (length whole)) e

  -- 16 holds
  pub no_room : (buf : List ℕ) {k : ℕ} → first_of lines_of ≡ None → k ≡ length (file_in d) → length buf < k
      → Answer buf buf (Written.TheVariants.Refused 16 k)
  no_room buf {k} e q h =
      writes-refused (write_lines whole) whole buf 16 k
      (late (length buf) e ∙ room-short (length buf) (length whole) (omega arith) ∙ ap (λ (x : ℕ). Some (refuse 16 x)) (sym q))

  -- no line holds
  pub enough : (buf end : List ℕ) {k : ℕ} → first_of lines_of ≡ None → k ≡ length (file_in d) → k ≤ length buf
      → end ≡ front (file_in d) buf → Answer buf end (Written.TheVariants.Whole k)
  enough buf end {k} e q h f =
      writes-whole (write_lines whole) whole buf end k (late (length buf) e ∙ room-enough (length buf) (length whole) (omega arith)) q f
