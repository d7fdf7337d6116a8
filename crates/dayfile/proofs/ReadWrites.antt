-- A file that no line turns away, written again, has the same bytes.
-- Assumes nothing.
use mathlib.Core.Bool.{Bool, cond}
use mathlib.Core.List.{List, [], ◌∷◌, ◌++◌}
use Rattle.std.specs.Prelude.{Option, None, Some}
use mathlib.Core.Path.{◌≡◌, refl, sym, ◌∙◌, ap, ap₂}
use Prim.Native.Nat.{ℕ, zero, suc, ◌+◌, ◌-◌, ◌*◌, ◌/◌, ◌<◌}
use native.Mathlib.Decide.{dec_lt, ℕ_discrete}
use native.Mathlib.Omega.{arith}
use lib.Dec.{eqb}
use lib.ListN.{length}
use borrow.Author.Tests.{ne_eqb, eqb-true}
use Rattle.fairness.specs.Leximin.{table}
use Rattle.model.specs.Lowest.{and_then}
use Rattle.model.proofs.Lowest.{lowest-some}
use Rattle.dayfile.specs.Layout.{Bytes, field, count, contents_end, kind, start, size, ends, seats_in, windows_in, entry_of}
use Rattle.dayfile.specs.Layout.{fields_at, grid_in, first_in, balances_in, weights_in, book_of, sheet_of}
use Rattle.dayfile.specs.File.{bytes_of, Part, part, contents, bodies, fields_of, assemble, flat, opt_part, opt_parts, flat_if}
use Rattle.dayfile.specs.File.{one_if, parts_of, file_of}
use Rattle.dayfile.specs.Table.{known}
use Rattle.dayfile.proofs.Tables.{run, run_length, run-same, run-append}
use Rattle.dayfile.proofs.Fields.{bytes-fields, fields-run, fields-length, flat-grid}
use Rattle.dayfile.proofs.Sound.{Sound, body_fields}
use Rattle.dayfile.proofs.Rising.{kind-one, kind-two, kind-three}
use Rattle.dayfile.proofs.Rising.{Split, split-first, hit, split-hit, miss, split-miss, split-last}

module _ (f : List ℕ) (s : Sound f) where
  -- ---- every body has a whole number of fields

  pub even : (e : ℕ) → e < count f → size f e ≡ 2 * (size f e / 2)
  even e h = let x = s.sizes e h in omega arith

  -- a body of kind k
  kind-size : (k e : ℕ) → e < count f → kind f e ≡ k → size f e / 2 ≡ body_fields f k
  kind-size k e h q = let x = s.sizes e h in let y = ap (body_fields f) q in omega arith

  pub entry-size : (k e : ℕ) → entry_of f k ≡ Some e → size f e / 2 ≡ body_fields f k
  unfolding entry_of
  entry-size k e q =
      let g = lowest-some (count f) (λ j. eqb (kind f j) k) e q in
      kind-size k e g.below (eqb-true (kind f e) k g.passes)

  -- ---- the file is that of its entries' parts

  -- field k of the file
  abbrev word : ℕ → ℕ
  word k = field f (2 * k)

  abbrev body_of : ℕ → List ℕ
  body_of e = fields_at f (start f e) (size f e / 2)

  -- the part of entry e
  abbrev piece : ℕ → Part
  piece e = part (kind f e) (body_of e)

  body-length : (e : ℕ) → e < count f → 2 * length (body_of e) ≡ size f e
  body-length e h = ap (λ (n : ℕ). 2 * n) (fields-length f (start f e) (size f e / 2)) ∙ sym (even e h)

  ends-first : ends f 0 ≡ contents_end (count f)
  unfolding ends
  ends-first = refl

  pub ends_next : (e : ℕ) → ends f (suc e) ≡ start f e + size f e
  unfolding ends
  ends_next e =
      let body : ℕ → ℕ = λ k. start f k + size f k in
      ap (λ (t : Bool). cond t (contents_end (count f)) (body (suc e - 1))) (ne_eqb (suc e) 0 (λ q. omega arith))
      ∙ ap body {x = suc e - 1} {y = e} (omega arith)

  -- the entries from e on are fields of the file
  entries-are : (m e at : ℕ) → e + m ≡ count f → at ≡ ends f e → contents at (run piece e m) ≡ run word (1 + 3 * e) (3 * m)
  unfolding contents run
  entries-are zero e at q a = refl
  entries-are (suc m) e at q a =
      let h : e < count f = omega arith in
      let k : ℕ = 1 + 3 * e in
      let n : ℕ = 2 * length (body_of e) in
      let bl = body-length e h in
      let nx = ends_next e in
      let st = s.starts e h in
      let w1 : kind f e ≡ word k = ap (field f) {x = 2 + 6 * e} {y = 2 * k} (omega arith) in
      let w2 : at ≡ word (suc k) = a ∙ sym st ∙ ap (field f) {x = 4 + 6 * e} {y = 2 * suc k} (omega arith) in
      let w3 : n ≡ word (suc (suc k)) = bl ∙ ap (field f) {x = 6 + 6 * e} {y = 2 * suc (suc k)} (omega arith) in
      let rest : List ℕ = contents (at + n) (run piece (suc e) m) in
      let ih = entries-are m (suc e) (at + n) (omega arith) (omega arith) in
      let on = ap (λ (i : ℕ). run word i (3 * m)) {x = 1 + 3 * suc e} {y = suc (suc (suc k))} (omega arith) in
      ap₂ (λ (x y : ℕ). x ∷ y ∷ n ∷ rest) w1 w2
      ∙ ap₂ (λ (x : ℕ) (r : List ℕ). word k ∷ word (suc k) ∷ x ∷ r) w3 (ih ∙ on)
      ∙ ap (run word k) {x = suc (suc (suc (3 * m)))} {y = 3 * suc m} (omega arith)

  body_run : (e k n : ℕ) → start f e ≡ 2 * k → fields_at f (start f e) n ≡ run word k n
  body_run e k n p =
      fields-run f (start f e) n
      ∙ run-same (λ i. field f (start f e + 2 * i)) word 0 k n
      (λ i h. ap (field f) {x = start f e + 2 * (0 + i)} {y = 2 * (k + i)} (omega arith))

  body_more : (e k n m : ℕ) (xs : List ℕ) → start f e ≡ 2 * k → xs ≡ run word (k + n) m
      → fields_at f (start f e) n ++ xs ≡ run word k (n + m)
  body_more e k n m xs p q = ap₂ (λ (x y : List ℕ). x ++ y) (body_run e k n p) q ∙ sym (run-append word k n m)

  -- the bodies from e on are the fields of the file from k on
  record Rest (m e k : ℕ) : Type 0 where
    more : ℕ
    fields : bodies (run piece e m) ≡ run word k more
    whole : 2 * (k + more) ≡ length f

  bodies-are : (m e k : ℕ) → e + m ≡ count f → ends f e ≡ 2 * k → Rest m e k
  unfolding bodies run
  bodies-are zero e k q a =
      let l = s.last in
      let x = ap (ends f) {x = e} {y = count f} (omega arith) in record { more = 0; fields = refl; whole = omega arith }
  bodies-are (suc m) e k q a =
      let h : e < count f = omega arith in
      let st = s.starts e h in
      let ev = even e h in
      let nx = ends_next e in
      let n : ℕ = size f e / 2 in
      let ih = bodies-are m (suc e) (k + n) (omega arith) (omega arith) in
      let w = ih.whole in
      record {
        more = n + ih.more;
        fields = body_more e k n ih.more (bodies (run piece (suc e) m)) (st ∙ a) ih.fields;
        whole = omega arith;
      }

  word_first : (m : ℕ) → field f 0 ∷ run word 1 m ≡ run word 0 (1 + m)
  unfolding run
  word_first m = ap (run word 0) {x = suc m} {y = 1 + m} (omega arith)

  pieces : Bytes f → assemble (field f 0) (run piece 0 (count f)) ≡ f
  unfolding assemble fields_of
  pieces by =
      let n : ℕ = count f in
      let ps : List Part = run piece 0 n in
      let first = ends-first in
      let bs = bodies-are n 0 (1 + 3 * n) (omega arith) (omega arith) in
      let m : ℕ = bs.more in
      let es : contents (contents_end n) ps ≡ run word 1 (3 * n) = entries-are n 0 (contents_end n) (omega arith) (sym first) in
      let all : field f 0 ∷ contents (contents_end (length ps)) ps ++ bodies ps ≡ run word 0 (1 + (3 * n + m)) =
      ap (λ (k : ℕ). field f 0 ∷ contents (contents_end k) ps ++ bodies ps) (run_length piece 0 n)
      ∙ ap₂ (λ (x y : List ℕ). field f 0 ∷ x ++ y) es bs.fields
      ∙ ap (λ (r : List ℕ). field f 0 ∷ r) (sym (run-append word 1 (3 * n) m))
      ∙ word_first (3 * n + m) in
      let w = bs.whole in ap bytes_of all ∙ bytes-fields (1 + (3 * n + m)) f (omega arith) by

  -- ---- the parts of the book and the sheet are those parts

  -- a grid's numbers are its body's
  grid-body : (e : ℕ) → size f e / 2 ≡ seats_in f * windows_in f → flat (grid_in f e) ≡ body_of e
  grid-body e q = flat-grid f (start f e) (seats_in f) (windows_in f) ∙ ap (fields_at f (start f e)) (sym q)

  cap-part : part 3 (flat (grid_in f 2)) ≡ piece 2
  cap-part =
      let k = kind-three f s.order in
      let m = s.order.many in ap₂ part (sym k) (grid-body 2 (kind-size 3 2 (omega arith) k))

  -- the body of a kind, if there is an entry
  abbrev body_if : Option ℕ → Option (List ℕ)
  body_if r = and_then r (λ e. Some (body_of e))

  -- the entries from e on
  abbrev pieces-from : ℕ → List Part
  pieces-from e = run piece e (count f - e)

  next-piece : (e : ℕ) → e < count f → pieces-from e ≡ piece e ∷ pieces-from (suc e)
  unfolding run
  next-piece e h = ap (run piece e) {x = count f - e} {y = suc (count f - suc e)} (omega arith)

  -- one kind up: the entries from e on are that kind's part, if there is one, and the entries from `next` on
  record Peeled (e lo : ℕ) : Type 0 where
    next : ℕ
    split : Split f s.order next (suc lo)
    same : pieces-from e ≡ opt_part lo (body_if (entry_of f lo)) ++ pieces-from next

  peel : (e lo : ℕ) → Split f s.order e lo → Peeled e lo
  unfolding opt_part
  peel e lo sp =
      elim (dec_lt e (count f)) [
        | yes l ↦ elim (ℕ_discrete (kind f e) lo) [ yes q ↦ here l q | no q ↦ not-here (λ m p. q p) ]
        | no l ↦ not-here (λ m p. l m)
      ]
    where
      here : e < count f → kind f e ≡ lo → Peeled e lo
      here l q =
          record {
            next = suc e;
            split = split-hit f s.order e lo sp l q;
            same = next-piece e l
                ∙ ap (λ (k : ℕ). part k (body_of e) ∷ pieces-from (suc e)) q
                ∙ ap (λ (r : Option ℕ). opt_part lo (body_if r) ++ pieces-from (suc e)) (sym (hit f s.order e lo sp l q));
          }

      not-here : (e < count f → kind f e ≡ lo → ⊥) → Peeled e lo
      not-here n =
          record {
            next = e;
            split = split-miss f s.order e lo sp n;
            same = ap (λ (r : Option ℕ). opt_part lo (body_if r) ++ pieces-from e) (sym (miss f s.order e lo sp n));
          }

  no_more : (e : ℕ) → Split f s.order e (suc known) → [] ≡ pieces-from e
  unfolding run
  no_more e sp = let q = split-last f s.order e sp in ap (run piece e) {x = 0} {y = count f - e} (omega arith)

  -- one kind more in front of those after it
  peel-as : (e lo : ℕ) (sp : Split f s.order e lo) {o : Option (List ℕ)} {rest : List Part}
      → o ≡ body_if (entry_of f lo) → rest ≡ pieces-from (peel e lo sp).next → opt_part lo o ++ rest ≡ pieces-from e
  peel-as e lo sp p q = ap₂ (λ (o : Option (List ℕ)) (r : List Part). opt_part lo o ++ r) p q ∙ sym (peel e lo sp).same

  -- a sheet's numbers are its body's
  sheet-body : (r : Option ℕ) → entry_of f 4 ≡ r → flat_if (and_then r (λ e. Some (grid_in f e))) ≡ body_if r
  sheet-body None q = refl
  sheet-body (Some e) q = ap Some (grid-body e (entry-size 4 e q))

  -- a first seat is the one field of its body
  one_field : (at n : ℕ) → n ≡ 1 → field f at ∷ [] ≡ fields_at f at n
  unfolding fields_at table
  one_field at n e =
      ap (λ (i : ℕ). field f i ∷ []) {x = at} {y = at + 2 * 0} (omega arith) ∙ ap (fields_at f at) {x = 1} {y = n} (sym e)

  seat-body : (r : Option ℕ) → entry_of f 5 ≡ r → one_if (and_then r (λ e. Some (field f (start f e)))) ≡ body_if r
  seat-body None q = refl
  seat-body (Some e) q = ap Some (one_field (start f e) (size f e / 2) (entry-size 5 e q))

  -- balances and weights are the fields of their bodies
  list-body : (k : ℕ) (r : Option ℕ) → entry_of f k ≡ r → and_then r (λ e. Some (fields_at f (start f e) (body_fields f k))) ≡ body_if r
  list-body k None q = refl
  list-body k (Some e) q = ap Some (ap (fields_at f (start f e)) (sym (entry-size k e q)))

  tail-is : opt_parts (book_of f) (sheet_of f) ≡ pieces-from 3
  unfolding opt_parts sheet_of book_of first_in balances_in weights_in
  tail-is =
      let first = split-first f s.order in
      let four = peel 3 4 first in
      let five = peel four.next 5 four.split in
      let six = peel five.next 6 five.split in
      let seven = peel six.next 7 six.split in
      peel-as 3 4 first (sheet-body (entry_of f 4) refl)
      (peel-as four.next 5 four.split (seat-body (entry_of f 5) refl)
      (peel-as five.next 6 five.split (list-body 6 (entry_of f 6) refl)
      (peel-as six.next 7 six.split (list-body 7 (entry_of f 7) refl) (no_more seven.next seven.split))))

  parts_are : parts_of (book_of f) (sheet_of f) ≡ run piece 0 (count f)
  unfolding parts_of book_of run
  parts_are =
      let m = s.order.many in
      let caps : List ℕ = flat (grid_in f 2) in
      let rest : List Part = part 3 caps ∷ opt_parts (book_of f) (sheet_of f) in
      ap₂ (λ (a b : ℕ). part a (body_of 0) ∷ part b (body_of 1) ∷ rest) (sym (kind-one f s.order)) (sym (kind-two f s.order))
      ∙ ap₂ (λ (p : Part) (r : List Part). piece 0 ∷ piece 1 ∷ p ∷ r) cap-part tail-is
      ∙ ap (run piece 0) {x = suc (suc (suc (count f - 3)))} {y = count f} (omega arith)

  pub written-again : Bytes f → file_of (book_of f) (sheet_of f) ≡ f
  unfolding file_of
  written-again by =
      ap (λ (ps : List Part). assemble (length ps) ps) parts_are
      ∙ ap (λ (k : ℕ). assemble k (run piece 0 (count f))) (run_length piece 0 (count f))
      ∙ pieces by
