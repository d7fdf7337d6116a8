-- A loop over slots: a total of them, and their entries stored one after another.
-- Assumes nothing.
use mathlib.Core.Bool.{Bool, true, false}
use mathlib.Core.List.{List, [], ◌∷◌, ◌++◌, append_assoc, append-nil}
use mathlib.Core.Path.{◌≡◌, refl, sym, ◌∙◌, ap}
use Prim.Native.Nat.{ℕ, ◌+◌, ◌*◌, ◌≤◌, ◌<◌, zero-le}
use native.Mathlib.Numerals.{add-one}
use native.Mathlib.Omega.{arith}
use lib.ListN.{length, get_or, drop}
use lib.Seq.{drop-cons, drop-length}
use Rattle.store.specs.Stores.{Room, Put, size_if, fields_if, total, size, entry, entries, sizes, entries_at, head}
use Rattle.store.specs.declared.contents.Slot.{Slot}
use Rattle.store.proofs.Storing.{put-none, put_then, put_as, room-first, room_next, room_as}

-- ---- one slot

-- what is there
pub there-size : (s : Slot) → s.there ≡ true → size s ≡ s.fields
there-size s e = ap (λ (t : Bool). size_if t s.fields) e

pub there-entry : (s : Slot) (at : ℕ) → s.there ≡ true → entry s at ≡ s.kind ∷ at ∷ 2 * s.fields ∷ []
there-entry s at e = ap (λ (t : Bool). fields_if t (s.kind ∷ at ∷ 2 * s.fields ∷ [])) e

-- what is missing: nothing is stored
pub missing-put : (l : List ℕ) (p : ℕ) (s : Slot) (at : ℕ) → s.there ≡ false → Put l p (entry s at) p l
missing-put l p s at e = put_as (ap (λ (t : Bool). fields_if t (s.kind ∷ at ∷ 2 * s.fields ∷ [])) (sym e)) (put-none l p)

-- ---- several

-- the slots from place i on: the one at i, and those behind it
split : (ss : List Slot) (i : ℕ) (z : Slot) → i < length ss → drop i ss ≡ get_or ss i z ∷ drop (i + 1) ss
split ss i z h = drop-cons ss i z h ∙ ap (λ (k : ℕ). get_or ss i z ∷ drop k ss) (sym (add-one i))

-- none is left at the end
none_left : (ss : List Slot) (i : ℕ) → i ≤ length ss → length ss ≤ i → drop i ss ≡ []
none_left ss i h k = ap (λ (j : ℕ). drop j ss) {x = i} {y = length ss} (omega arith) ∙ drop-length ss

-- ---- a total

step : (f : Slot → ℕ) (ss : List Slot) (i : ℕ) (z : Slot) → i < length ss
    → total f (drop i ss) ≡ f (get_or ss i z) + total f (drop (i + 1) ss)
unfolding total
step f ss i z h = ap (total f) (split ss i z h)

-- n is the total of the slots before i
pub record Totalled (f : Slot → ℕ) (ss : List Slot) (n i : ℕ) : Type 0 where
  pub within : i ≤ length ss
  pub sum : n + total f (drop i ss) ≡ total f ss

module _ {f : Slot → ℕ} {ss : List Slot} where
  pub total_first : Totalled f ss 0 0
  total_first = record { within = zero-le; sum = omega arith }

  pub total-next : {n i : ℕ} (z : Slot) {x : ℕ} → Totalled f ss n i → i < length ss → x ≡ f (get_or ss i z) → Totalled f ss (n + x) (i + 1)
  total-next {n} {i} z {x} t h e =
      let s = step f ss i z h in let q = t.sum in record { within = omega arith; sum = omega arith }

  -- the numbers met on the way are not above the whole
  pub total-under : {n i : ℕ} (z : Slot) {x : ℕ} → Totalled f ss n i → i < length ss → x ≡ f (get_or ss i z) → n + x ≤ total f ss
  total-under {n} {i} z {x} t h e = let s = step f ss i z h in let q = t.sum in omega arith

  pub total-end : {n i : ℕ} → Totalled f ss n i → length ss ≤ i → n ≡ total f ss
  unfolding total
  total-end {n} {i} t h =
      let e : total f (drop i ss) ≡ 0 = ap (total f) (none_left ss i t.within h) in let q = t.sum in omega arith

-- ---- the entries

entries_next : (ss : List Slot) (body i : ℕ) (z : Slot) → i < length ss
    → entries_at body (drop i ss) ≡ entry (get_or ss i z) body ++ entries_at (body + 2 * size (get_or ss i z)) (drop (i + 1) ss)
unfolding entries_at
entries_next ss body i z h = ap (entries_at body) (split ss i z h)

-- those of the slots before i are stored, the next goes to p, and the next body starts at `body`
pub record Entered (l : List ℕ) (at start : ℕ) (ss : List Slot) (i p body : ℕ) (b : List ℕ) : Type 0 where
  pub within : i ≤ length ss
  pub fields : List ℕ
  pub put : Put l at fields p b
  pub rest : fields ++ entries_at body (drop i ss) ≡ entries_at start ss
  pub bodies : body + 2 * sizes (drop i ss) ≡ start + 2 * sizes ss

module _ {l : List ℕ} {at start : ℕ} {ss : List Slot} where
  pub entered-first : Entered l at start ss 0 at start l
  entered-first = record { within = zero-le; fields = []; put = put-none l at; rest = refl; bodies = refl }

  -- room for the next entry, and a bound for where its body starts
  pub entered-room : {i p body : ℕ} {b : List ℕ} (z : Slot) → Entered l at start ss i p body b → i < length ss
      → Room l at (entries_at start ss) → Room b p (entry (get_or ss i z) body)
  entered-room {i} {p} {body} z e h r =
      let s : Slot = get_or ss i z in
      let left = room_next e.fields (entries_at body (drop i ss)) (room_as (sym e.rest) r) e.put in
      room-first (entry s body) (entries_at (body + 2 * size s) (drop (i + 1) ss)) (room_as (entries_next ss body i z h) left)

  pub entered-start : {i p body n top : ℕ} {b : List ℕ} (z : Slot) → Entered l at start ss i p body b → i < length ss
      → start + 2 * sizes ss < top → n ≡ size (get_or ss i z) → body + 2 * n < top
  entered-start {i} z e h k same = let n = step size ss i z h in let q = e.bodies in omega arith

  pub entered-next : {i p r body n : ℕ} {b d : List ℕ} (z : Slot) → Entered l at start ss i p body b → i < length ss
      → Put b p (entry (get_or ss i z) body) r d → n ≡ size (get_or ss i z) → Entered l at start ss (i + 1) r (body + 2 * n) d
  entered-next {i} {p} {r} {body} {n} z e h k same =
      let s : Slot = get_or ss i z in
      let tail : List Slot = drop (i + 1) ss in
      let q = e.bodies in
      let more = step size ss i z h in
      record {
        within = omega arith;
        fields = e.fields ++ entry s body;
        put = put_then e.put k;
        rest = ap (λ (x : ℕ). (e.fields ++ entry s body) ++ entries_at (body + 2 * x) tail) same
            ∙ append_assoc e.fields (entry s body) (entries_at (body + 2 * size s) tail)
            ∙ ap (λ (ws : List ℕ). e.fields ++ ws) (sym (entries_next ss body i z h))
            ∙ e.rest;
        bodies = omega arith;
      }

  pub entered-end : {i p body : ℕ} {b : List ℕ} → Entered l at start ss i p body b → length ss ≤ i → Put l at (entries_at start ss) p b
  unfolding entries_at
  entered-end {i} {p} {body} e h =
      put_as
      (sym (append-nil e.fields)
      ∙ ap (λ (tail : List Slot). e.fields ++ entries_at body tail) (sym (none_left ss i e.within h))
      ∙ e.rest)
      e.put

-- ---- the number of entries, then the entries

-- told by the number n
head_as : {l : List ℕ} {n : ℕ} (ss : List Slot) → n ≡ entries ss → Room l 0 (head ss) → Room l 0 ((n ∷ []) ++ entries_at (2 + 6 * n) ss)
unfolding head
head_as ss e r = room_as (ap (λ (x : ℕ). x ∷ entries_at (2 + 6 * x) ss) (sym e)) r

pub head_first : {l : List ℕ} {n : ℕ} (ss : List Slot) → n ≡ entries ss → Room l 0 (head ss) → Room l 0 (n ∷ [])
head_first {n = n} ss e r = room-first (n ∷ []) (entries_at (2 + 6 * n) ss) (head_as ss e r)

pub head-next : {l b : List ℕ} {n p : ℕ} (ss : List Slot) → n ≡ entries ss → Room l 0 (head ss) → Put l 0 (n ∷ []) p b
    → Room b p (entries_at (2 + 6 * n) ss)
head-next {n = n} ss e r c = room_next (n ∷ []) (entries_at (2 + 6 * n) ss) (head_as ss e r) c

pub head-put : {l b d : List ℕ} {n p r : ℕ} (ss : List Slot) → n ≡ entries ss
    → Put l 0 (n ∷ []) p b → Put b p (entries_at (2 + 6 * n) ss) r d → Put l 0 (head ss) r d
unfolding head
head-put ss e c k = put_as (ap (λ (x : ℕ). x ∷ entries_at (2 + 6 * x) ss) e) (put_then c k)
