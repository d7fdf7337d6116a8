-- The file of some parts, read: the number of entries, each entry, where the bodies lie, and each body.
-- Assumes nothing.
use mathlib.Core.Bool.{Bool, cond}
use mathlib.Core.List.{List, [], ◌∷◌, ◌++◌}
use mathlib.Core.Path.{◌≡◌, refl, sym, ◌∙◌, ap}
use Prim.Native.Nat.{ℕ, zero, suc, ◌+◌, ◌-◌, ◌*◌, ◌≤◌, ◌<◌}
use native.Mathlib.Nat.{not-suc-le-zero, le_of_suc-le-suc}
use native.Mathlib.Omega.{arith}
use lib.ListN.{length, get_or, length-append, get_or-append}
use lib.Seq.{get_or-append-add, ext_get_or}
use borrow.Author.Tests.{ne_eqb}
use Rattle.dayfile.specs.Layout.{field, entries_in, count, contents_end, kind, start, size, ends, fields_at}
use Rattle.dayfile.specs.File.{bytes_of, Part, part, contents, bodies, fields_of, assemble}
use Rattle.dayfile.proofs.Fields.{length-bytes, field-bytes, fields-length, fields-at}

-- part e of the parts
abbrev pub nth : List Part → ℕ → Part
nth ps e = get_or ps e (part 0 [])

-- the number of fields in the bodies before part e
abbrev pub before : List Part → ℕ → ℕ
before [] e = 0
before (p ∷ ps) zero = 0
before (p ∷ ps) (suc e) = length p.body + before ps e

pub before-none : (ps : List Part) → before ps 0 ≡ 0
before-none [] = refl
before-none (p ∷ ps) = refl

pub before-all : (ps : List Part) → before ps (length ps) ≡ length (bodies ps)
unfolding bodies
before-all [] = refl
before-all (p ∷ ps) = ap (λ (n : ℕ). length p.body + n) (before-all ps) ∙ sym (length-append p.body (bodies ps))

pub before-next : (ps : List Part) (e : ℕ) → e < length ps → before ps (suc e) ≡ before ps e + length (nth ps e).body
before-next [] e h = absurd (not-suc-le-zero h)
before-next (p ∷ ps) zero h = let z = before-none ps in omega arith
before-next (p ∷ ps) (suc e) h = let r = before-next ps e (le_of_suc-le-suc h) in omega arith

-- ---- the fields of the contents and of the bodies

pub length-contents : (at : ℕ) (ps : List Part) → length (contents at ps) ≡ 3 * length ps
unfolding contents
length-contents at [] = refl
length-contents at (p ∷ ps) = let e = length-contents (at + 2 * length p.body) ps in omega arith

-- the three fields of entry e: k is 0, 1 or 2
next-entry : (at : ℕ) (p : Part) (ps : List Part) (more : List ℕ) (e k : ℕ)
    → get_or (contents at (p ∷ ps) ++ more) (3 * suc e + k) 0 ≡ get_or (contents (at + 2 * length p.body) ps ++ more) (3 * e + k) 0
unfolding contents
next-entry at p ps more e k =
    ap (λ (n : ℕ). get_or (contents at (p ∷ ps) ++ more) n 0) {x = 3 * suc e + k} {y = suc (suc (suc (3 * e + k)))} (omega arith)

sort-at : (at : ℕ) (ps : List Part) (more : List ℕ) (e : ℕ) → e < length ps
    → get_or (contents at ps ++ more) (3 * e + 0) 0 ≡ (nth ps e).sort
unfolding contents
sort-at at [] more e h = absurd (not-suc-le-zero h)
sort-at at (p ∷ ps) more zero h = refl
sort-at at (p ∷ ps) more (suc e) h =
    next-entry at p ps more e 0 ∙ sort-at (at + 2 * length p.body) ps more e (le_of_suc-le-suc h)

start-at : (at : ℕ) (ps : List Part) (more : List ℕ) (e : ℕ) → e < length ps
    → get_or (contents at ps ++ more) (3 * e + 1) 0 ≡ at + 2 * before ps e
unfolding contents
start-at at [] more e h = absurd (not-suc-le-zero h)
start-at at (p ∷ ps) more zero h = omega arith
start-at at (p ∷ ps) more (suc e) h =
    next-entry at p ps more e 1 ∙ start-at (at + 2 * length p.body) ps more e (le_of_suc-le-suc h) ∙ omega arith

size-at : (at : ℕ) (ps : List Part) (more : List ℕ) (e : ℕ) → e < length ps
    → get_or (contents at ps ++ more) (3 * e + 2) 0 ≡ 2 * length (nth ps e).body
unfolding contents
size-at at [] more e h = absurd (not-suc-le-zero h)
size-at at (p ∷ ps) more zero h = refl
size-at at (p ∷ ps) more (suc e) h =
    next-entry at p ps more e 2 ∙ size-at (at + 2 * length p.body) ps more e (le_of_suc-le-suc h)

body_at : (ps : List Part) (e i : ℕ) → i < length (nth ps e).body
    → get_or (bodies ps) (before ps e + i) 0 ≡ get_or (nth ps e).body i 0
unfolding bodies
body_at [] e i h = absurd (not-suc-le-zero h)
body_at (p ∷ ps) zero i h =
    ap (λ (n : ℕ). get_or (p.body ++ bodies ps) n 0) {x = 0 + i} {y = i} (omega arith)
    ∙ get_or-append p.body (bodies ps) 0 i h
body_at (p ∷ ps) (suc e) i h =
    let n : ℕ = length p.body in
    ap (λ (k : ℕ). get_or (p.body ++ bodies ps) k 0) {x = n + before ps e + i} {y = n + (before ps e + i)} (omega arith)
    ∙ get_or-append-add p.body (bodies ps) (before ps e + i) 0
    ∙ body_at ps e i h

-- ---- the file

module _ (first : ℕ) (ps : List Part) (told : entries_in first ≡ length ps) where
  abbrev base : ℕ
  base = contents_end (length ps)

  abbrev file : List ℕ
  file = assemble first ps

  pub file-size : length (assemble first ps) ≡ contents_end (length ps) + 2 * length (bodies ps)
  unfolding assemble fields_of
  file-size =
      let e = length-contents base ps in
      let a = length-append (contents base ps) (bodies ps) in length-bytes (fields_of first ps) ∙ omega arith

  pub count-is : count (assemble first ps) ≡ length ps
  unfolding assemble fields_of
  count-is = ap entries_in (field-bytes (fields_of first ps) 0) ∙ told

  nth-field : (at k : ℕ) → at ≡ 2 * suc k → field (assemble first ps) at ≡ get_or (contents base ps ++ bodies ps) k 0
  unfolding assemble fields_of
  nth-field at k e = ap (field (bytes_of (fields_of first ps))) e ∙ field-bytes (fields_of first ps) (suc k)

  pub kind_is : (e : ℕ) → e < length ps → kind (assemble first ps) e ≡ (nth ps e).sort
  kind_is e h = nth-field (2 + 6 * e) (3 * e + 0) (omega arith) ∙ sort-at base ps (bodies ps) e h

  pub start_is : (e : ℕ) → e < length ps → start (assemble first ps) e ≡ contents_end (length ps) + 2 * before ps e
  start_is e h = nth-field (4 + 6 * e) (3 * e + 1) (omega arith) ∙ start-at base ps (bodies ps) e h

  pub size_is : (e : ℕ) → e < length ps → size (assemble first ps) e ≡ 2 * length (nth ps e).body
  size_is e h = nth-field (6 + 6 * e) (3 * e + 2) (omega arith) ∙ size-at base ps (bodies ps) e h

  -- each part ends where the next begins
  pub ends_is : (e : ℕ) → e ≤ length ps → ends (assemble first ps) e ≡ contents_end (length ps) + 2 * before ps e
  unfolding ends
  ends_is zero h = ap contents_end count-is ∙ (let z = before-none ps in omega arith)
  ends_is (suc e) h =
      let body : ℕ → ℕ = λ k. start file k + size file k in
      ap (λ (t : Bool). cond t (contents_end (count file)) (body (suc e - 1))) (ne_eqb (suc e) 0 (λ q. omega arith))
      ∙ ap body {x = suc e - 1} {y = e} (omega arith)
      ∙ (let a = start_is e h in let b = size_is e h in let n = before-next ps e h in omega arith)

  pub body_is : (e : ℕ) → e < length ps
      → fields_at (assemble first ps) (start (assemble first ps) e) (length (nth ps e).body) ≡ (nth ps e).body
  body_is e h =
      let xs : List ℕ = (nth ps e).body in
      let at : ℕ = start file e in
      let n : ℕ = length xs in
      let long = fields-length file at n in
      let all : ℕ → ℕ = λ k. get_or (contents base ps ++ bodies ps) k 0 in
      let lc = length-contents base ps in
      ext_get_or 0 (fields_at file at n) xs long (λ i q.
      let i< : i < n = omega arith in
      let k : ℕ = before ps e + i in
      fields-at file at n i i<
      ∙ nth-field (at + 2 * i) (3 * length ps + k) (let s = start_is e h in omega arith)
      ∙ ap all {x = 3 * length ps + k} {y = length (contents base ps) + k} (omega arith)
      ∙ get_or-append-add (contents base ps) (bodies ps) k 0
      ∙ body_at ps e i i<)
