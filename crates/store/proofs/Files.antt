-- What is stored is the file: its contents by one step for each slot, then its bodies.
-- Assumes nothing.
use mathlib.Core.Bool.{Bool, true, false}
use mathlib.Core.List.{List, [], ◌∷◌, ◌++◌, append-nil}
use Rattle.std.specs.Prelude.{Option, None, Some}
use mathlib.Core.Path.{◌≡◌, refl, sym, ◌∙◌, ap, ap₂, subst}
use Prim.Native.Nat.{ℕ, ◌+◌, ◌*◌, ◌≤◌, ◌<◌}
use native.Mathlib.Nat.{mul-le-mul}
use native.Mathlib.Omega.{arith}
use lib.ListN.{length, drop, length-append}
use Rattle.model.specs.Lowest.{when}
use Rattle.model.specs.Book.{Grid}
use Rattle.dayfile.specs.Layout.{contents_end}
use Rattle.dayfile.specs.File.{Part, bytes_of, contents, bodies, fields_of, assemble, flat, flat_if, opt_part, opt_parts, parts_of, file_of}
use Rattle.dayfile.specs.File.{one_if}
use Rattle.dayfile.specs.Table.{known}
use Rattle.dayfile.specs.Memory.{sized, sized_grid, book_in, sheet_in, file_with, front}
use Rattle.dayfile.specs.declared.Book as Memory
use Rattle.dayfile.proofs.Tables.{sized-length}
use Rattle.dayfile.proofs.Fields.{length-bytes}
use Rattle.dayfile.proofs.Grids.{flat_append, sized-flat-length}
use Rattle.store.specs.Stores.{Room, Put, size_if, fields_if, total, count, size, entry, entries, sizes, entries_at}
use Rattle.store.specs.Stores.{head, slot, slots_of, list_fields, option_fields}
use Rattle.store.specs.declared.contents.Slot.{Slot}
use Rattle.store.proofs.Storing.{Begun, begun_first, begun-room, begun-next, begun-end, put_as, put-end, put_front, room_as, grid-if}

-- ---- one slot: its entry, its body, its count

abbrev if_there : Bool → List ℕ → Option (List ℕ)
if_there true xs = Some xs
if_there false xs = None

contents-opt : (at k n : ℕ) (t : Bool) (xs : List ℕ) (qs : List Part) → length xs ≡ n
    → contents at (opt_part k (if_there t xs) ++ qs) ≡ fields_if t (k ∷ at ∷ 2 * n ∷ []) ++ contents (at + 2 * size_if t n) qs
unfolding opt_part contents
contents-opt at k n true xs qs e = ap (λ (i : ℕ). k ∷ at ∷ 2 * i ∷ contents (at + 2 * i) qs) e
contents-opt at k n false xs qs e = ap (λ (i : ℕ). contents i qs) {x = at} {y = at + 2 * 0} (omega arith)

bodies-opt : (k : ℕ) (t : Bool) (xs : List ℕ) (qs : List Part) → bodies (opt_part k (if_there t xs) ++ qs) ≡ fields_if t xs ++ bodies qs
unfolding opt_part bodies
bodies-opt k true xs qs = refl
bodies-opt k false xs qs = refl

count-opt : (k : ℕ) (t : Bool) (xs : List ℕ) (qs : List Part) → length (opt_part k (if_there t xs) ++ qs) ≡ size_if t 1 + length qs
unfolding opt_part
count-opt k true xs qs = omega arith
count-opt k false xs qs = omega arith

length-opt : (t : Bool) (xs : List ℕ) (n : ℕ) → length xs ≡ n → length (fields_if t xs) ≡ size_if t n
length-opt true xs n e = e
length-opt false xs n e = refl

-- an entry has three fields
pub entry-long : (s : Slot) (at : ℕ) → length (entry s at) ≡ 3 * count s
entry-long s at = go s.there
  where
    go : (t : Bool) → length (fields_if t (s.kind ∷ at ∷ 2 * s.fields ∷ [])) ≡ 3 * size_if t 1
    go true = refl
    go false = refl

-- ---- all of them

-- a slot with the fields of its body
record Full : Type 0 where
  at : Slot
  body : List ℕ
  long : length body ≡ at.fields

abbrev slots : List Full → List Slot
slots [] = []
slots (f ∷ fs) = f.at ∷ slots fs

abbrev parts : List Full → List Part
parts [] = []
parts (f ∷ fs) = opt_part f.at.kind (if_there f.at.there f.body) ++ parts fs

-- the fields of each body, none where it is missing
abbrev runs : List Full → List (List ℕ)
runs [] = []
runs (f ∷ fs) = fields_if f.at.there f.body ∷ runs fs

contents-are : (at : ℕ) (fs : List Full) → contents at (parts fs) ≡ entries_at at (slots fs)
unfolding contents entries_at
contents-are at [] = refl
contents-are at (f ∷ fs) =
    contents-opt at f.at.kind f.at.fields f.at.there f.body (parts fs) f.long
    ∙ ap (λ (ws : List ℕ). entry f.at at ++ ws) (contents-are (at + 2 * size f.at) fs)

count-is : (fs : List Full) → length (parts fs) ≡ entries (slots fs)
unfolding total
count-is [] = refl
count-is (f ∷ fs) =
    count-opt f.at.kind f.at.there f.body (parts fs) ∙ ap (λ (n : ℕ). size_if f.at.there 1 + n) (count-is fs)

bodies-are : (fs : List Full) → bodies (parts fs) ≡ flat (runs fs)
unfolding bodies flat
bodies-are [] = refl
bodies-are (f ∷ fs) =
    bodies-opt f.at.kind f.at.there f.body (parts fs)
    ∙ ap (λ (ws : List ℕ). fields_if f.at.there f.body ++ ws) (bodies-are fs)

bodies-long : (fs : List Full) → length (flat (runs fs)) ≡ sizes (slots fs)
unfolding total flat
bodies-long [] = refl
bodies-long (f ∷ fs) =
    let e = length-opt f.at.there f.body f.at.fields f.long in
    let r = bodies-long fs in length-append (fields_if f.at.there f.body) (flat (runs fs)) ∙ omega arith

pub entries-long : (ss : List Slot) (at : ℕ) → length (entries_at at ss) ≡ 3 * entries ss
unfolding entries_at total
entries-long [] at = refl
entries-long (s ∷ ss) at =
    let e = entry-long s at in
    let r = entries-long ss (at + 2 * size s) in
    length-append (entry s at) (entries_at (at + 2 * size s) ss) ∙ omega arith

pub head-long : (ss : List Slot) → 2 * length (head ss) ≡ contents_end (entries ss)
unfolding head
head-long ss = let e = entries-long ss (contents_end (entries ss)) in omega arith

-- the number of entries, the entries and the bodies are the file's fields
fields-are : (fs : List Full) → fields_of (length (parts fs)) (parts fs) ≡ head (slots fs) ++ flat (runs fs)
unfolding head fields_of
fields-are fs =
    let ps : List Part = parts fs in
    ap (λ (k : ℕ). k ∷ contents (contents_end k) ps ++ bodies ps) (count-is fs)
    ∙ ap (λ (ws : List ℕ). entries (slots fs) ∷ ws ++ bodies ps) (contents-are (contents_end (entries (slots fs))) fs)
    ∙ ap (λ (ws : List ℕ). head (slots fs) ++ ws) (bodies-are fs)

-- the slots of a book: how many, and that their sizes are small
size-most : (t : Bool) (n : ℕ) → size_if t n ≤ n
size-most true n = omega arith
size-most false n = omega arith

pub slots-fit : (b : Memory.Book) (t : Bool) {ss : List Slot} → ss ≡ slots_of b t → (b.seats ≤ 32) × (b.windows ≤ 24)
    → (length ss ≡ known) × (sizes ss < 30000)
unfolding slots_of total
slots-fit b t e h =
    let q = mul-le-mul h.0 h.1 in
    let s = size-most t (b.seats * b.windows) in
    let k = size-most b.has_first 1 in
    let l = size-most b.has_balances b.seats in
    let w = size-most b.has_weights 8 in
    let small : sizes (slots_of b t) < 30000 = omega (arith, h) in (ap length e, subst (λ (xs : List Slot). sizes xs < 30000) (sym e) small)

-- ---- a book with its caps, with or without a sheet

-- the parts of its file
unfoldable pub parts_with : Memory.Book → Grid → Bool → Grid → List Part
parts_with b caps t sheet = parts_of (book_in b caps) (sheet_in b t sheet)

module _ (b : Memory.Book) (caps : Grid) (t : Bool) (sheet : Grid) where
  abbrev n : ℕ
  n = b.seats

  abbrev m : ℕ
  m = b.windows

  abbrev file : List ℕ
  file = file_with b caps t sheet

  abbrev cells : Grid → List ℕ
  cells g = flat (sized_grid n m g)

  -- its bodies: a further kind is one more
  abbrev all : List Full
  all =
      record { at = slot 1 true n; body = sized n b.classes; long = sized-length n b.classes }
      ∷ record { at = slot 2 true m; body = sized m b.supplies; long = sized-length m b.supplies }
      ∷ record { at = slot 3 true (n * m); body = cells caps; long = sized-flat-length n m caps }
      ∷ record { at = slot 4 t (n * m); body = cells sheet; long = sized-flat-length n m sheet }
      ∷ record { at = slot 5 b.has_first 1; body = b.first ∷ []; long = refl }
      ∷ record { at = slot 6 b.has_balances n; body = sized n b.balances; long = sized-length n b.balances }
      ∷ record { at = slot 7 b.has_weights 8; body = sized 8 b.weights; long = sized-length 8 b.weights }
      ∷ []

  slots-are : slots all ≡ slots_of b t
  unfolding slots_of
  slots-are = refl

  sheet-flat : (u : Bool) → flat_if (sheet_in b u sheet) ≡ if_there u (cells sheet)
  sheet-flat true = refl
  sheet-flat false = refl

  first_one : (u : Bool) → one_if (when u b.first) ≡ if_there u (b.first ∷ [])
  first_one true = refl
  first_one false = refl

  list-there : (u : Bool) (xs : List ℕ) → when u xs ≡ if_there u xs
  list-there true xs = refl
  list-there false xs = refl

  parts_are : parts_with b caps t sheet ≡ parts all
  unfolding parts_with parts_of opt_parts opt_part book_in
  parts_are =
      let front : List Part → List Part =
      λ ps. record { sort = 1; body = sized n b.classes }
      ∷ record { sort = 2; body = sized m b.supplies }
      ∷ record { sort = 3; body = cells caps }
      ∷ ps in
      let balances : List ℕ = sized n b.balances in
      let weights : List ℕ = sized 8 b.weights in
      let last : List Part = opt_part 6 (when b.has_balances balances) ++ (opt_part 7 (when b.has_weights weights) ++ []) in
      ap₂ (λ (o k : Option (List ℕ)). front (opt_part 4 o ++ (opt_part 5 k ++ last))) (sheet-flat t) (first_one b.has_first)
      ∙ ap₂ (λ (j k : Option (List ℕ)).
      front (opt_part 4 (if_there t (cells sheet)) ++ (opt_part 5 (if_there b.has_first (b.first ∷ []))
      ++ (opt_part 6 j ++ (opt_part 7 k ++ [])))))
      (list-there b.has_balances balances) (list-there b.has_weights weights)

  pub parts-count : length (parts_with b caps t sheet) ≡ entries (slots_of b t)
  parts-count = ap length parts_are ∙ count-is all ∙ ap entries slots-are

  -- what is stored, run by run: first the contents, then the bodies
  abbrev stored : List (List ℕ)
  stored =
      head (slots_of b t)
      ∷ list_fields b
      ∷ cells caps
      ∷ fields_if t (cells sheet)
      ∷ option_fields b
      ∷ []

  -- the first two bodies are one run, and so are those from the first seat on
  stored-are : head (slots all) ++ flat (runs all) ≡ flat stored
  unfolding flat
  stored-are =
      ap₂ (λ (ss : List Slot) (ws : List ℕ). head ss ++ ws) slots-are
      (flat_append (sized n b.classes ∷ sized m b.supplies ∷ []) (drop 2 (runs all))
      ∙ ap (λ (ws : List ℕ). list_fields b ++ (cells caps ++ (fields_if t (cells sheet) ++ ws))) (sym (append-nil (option_fields b))))

  fields-stored : fields_of (length (parts_with b caps t sheet)) (parts_with b caps t sheet) ≡ head (slots all) ++ flat (runs all)
  fields-stored = ap (λ (ps : List Part). fields_of (length ps) ps) parts_are ∙ fields-are all

  file-is : file ≡ bytes_of (flat stored)
  unfolding file_with file_of assemble parts_with
  file-is = ap bytes_of (fields-stored ∙ stored-are)

  fields-long : length file ≡ 2 * length (flat stored)
  fields-long = ap length file-is ∙ length-bytes (flat stored)

  file-long : length file ≡ contents_end (entries (slots_of b t)) + 2 * sizes (slots_of b t)
  file-long =
      let h = head-long (slots all) in
      let c = bodies-long all in
      let a = length-append (head (slots all)) (flat (runs all)) in
      let e = ap length stored-are in
      fields-long ∙ omega arith ∙ ap (λ (ss : List Slot). contents_end (entries ss) + 2 * sizes ss) slots-are

-- ---- stored run by run

module _ (m : Memory.Book) (caps : Grid) (t : Bool) (sheet : Grid) (l : List ℕ) (long : length (file_with m caps t sheet) ≤ length l) where
  first : Begun l 0 (flat (stored m caps t sheet)) 0 (stored m caps t sheet) l
  first = let f = fields-long m caps t sheet in begun_first (stored m caps t sheet) (record { fits = omega arith })

  -- the contents
  module _ {ss : List Slot} (e : ss ≡ slots_of m t) where
    pub contents-room : Room l 0 (head ss)
    contents-room = room_as (ap head (sym e)) (begun-room first)

    pub contents-put : {p : ℕ} {b : List ℕ} → Put l 0 (head ss) p b
        → Begun l 0 (flat (stored m caps t sheet)) p (drop 1 (stored m caps t sheet)) b
    contents-put c = begun-next first (put_as (ap head e) c)

  -- all of it is the file at the buffer's front
  pub file-front : {r : ℕ} {b : List ℕ} → Begun l 0 (flat (stored m caps t sheet)) r [] b
      → (r ≡ length (file_with m caps t sheet)) × (b ≡ front (file_with m caps t sheet) l)
  unfolding front
  file-front s =
      let all = begun-end s in
      let n = fields-long m caps t sheet in
      let z = put-end all in (
        omega arith,
        put_front all (omega arith) ∙ ap (λ (f : List ℕ). f ++ drop (length f) l) (sym (file-is m caps t sheet)),
      )

-- the sheet, by the number of rows that are there
module _ (m : Memory.Book) (t : Bool) (sheet : Grid) {rows : ℕ} (e : rows ≡ size_if t m.seats) where
  sheet-rows : flat (sized_grid rows m.windows sheet) ≡ fields_if t (flat (sized_grid m.seats m.windows sheet))
  sheet-rows = ap (λ (k : ℕ). flat (sized_grid k m.windows sheet)) e ∙ grid-if t m.seats m.windows sheet

  pub sheet-room : {b : List ℕ} {p : ℕ} → Room b p (fields_if t (flat (sized_grid m.seats m.windows sheet)))
      → Room b p (flat (sized_grid rows m.windows sheet))
  sheet-room r = room_as (sym sheet-rows) r

  pub sheet-put : {b c : List ℕ} {p r : ℕ} → Put b p (flat (sized_grid rows m.windows sheet)) r c
      → Put b p (fields_if t (flat (sized_grid m.seats m.windows sheet))) r c
  sheet-put h = put_as sheet-rows h

-- the length by the book alone
pub length-told : (m : Memory.Book) (caps : Grid) (t : Bool) (sheet : Grid) {ss : List Slot} {i j : ℕ} → ss ≡ slots_of m t → i ≡ entries ss
    → j ≡ sizes ss → 2 + 6 * i + 2 * j ≡ length (file_with m caps t sheet)
length-told m caps t sheet e p q =
    ap₂ (λ (x y : ℕ). 2 + 6 * x + 2 * y) (p ∙ ap entries e) (q ∙ ap sizes e) ∙ sym (file-long m caps t sheet)
