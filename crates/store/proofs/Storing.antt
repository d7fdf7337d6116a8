-- Fields stored into a buffer: one run of them after another, one more of a list, one more row of a grid.
-- Assumes nothing.
use mathlib.Core.Bool.{Bool, true, false}
use mathlib.Core.List.{List, [], ◌∷◌, ◌++◌, append_assoc, append-nil}
use mathlib.Core.Path.{◌≡◌, refl, sym, ◌∙◌, ap}
use Prim.Native.Nat.{ℕ, ◌+◌, ◌*◌, ◌≤◌, ◌<◌}
use native.Mathlib.Nat.{mul-le-mul_right}
use native.Mathlib.Omega.{arith}
use lib.ListN.{length, get_or, drop, length-append}
use Rattle.fairness.specs.Leximin.{table}
use Rattle.lists.proofs.Buffers.{stored-none, stored_next, stored-as, stored-length, stored-front}
use Rattle.model.specs.Book.{Grid}
use Rattle.dayfile.specs.File.{bytes_of, flat}
use Rattle.dayfile.specs.Memory.{sized, sized_grid}
use Rattle.dayfile.proofs.Tables.{sized-length, sized-more, sized-one}
use Rattle.dayfile.proofs.Fields.{length-bytes, bytes-append}
use Rattle.dayfile.proofs.Grids.{sized-flat-length, sized-flat-none, sized-flat-more}
use Rattle.store.specs.Stores.{Room, Put, size_if, fields_if}

pub put-none : (l : List ℕ) (at : ℕ) → Put l at [] at l
unfolding bytes_of
put-none l at = record { bytes = stored-none }

-- one run of fields after another
pub put_then : {l : List ℕ} {at : ℕ} {ws vs : List ℕ} {p r : ℕ} {b d : List ℕ} → Put l at ws p b → Put b p vs r d → Put l at (ws ++ vs) r d
put_then {ws = ws} {vs = vs} h k = record { bytes = stored-as (sym (bytes-append ws vs)) (stored_next h.bytes k.bytes) }

-- the same fields
pub put_as : {l : List ℕ} {at : ℕ} {ws vs : List ℕ} {r : ℕ} {d : List ℕ} → ws ≡ vs → Put l at ws r d → Put l at vs r d
put_as e h = record { bytes = stored-as (ap bytes_of e) h.bytes }

-- the offset behind them
pub put-end : {l : List ℕ} {at : ℕ} {ws : List ℕ} {p : ℕ} {b : List ℕ} → Put l at ws p b → p ≡ at + 2 * length ws
put-end {at = at} {ws = ws} h = h.bytes.place ∙ ap (λ (n : ℕ). at + n) (length-bytes ws)

-- the buffer is as long as it was
pub put-long : {l : List ℕ} {at : ℕ} {ws : List ℕ} {p : ℕ} {b : List ℕ} → Put l at ws p b → length b ≡ length l
put-long h = stored-length h.bytes

-- the front of the buffer, and the rest as it was
pub put_front : {l ws : List ℕ} {p : ℕ} {b : List ℕ} → Put l 0 ws p b → 2 * length ws ≤ length l
    → b ≡ bytes_of ws ++ drop (length (bytes_of ws)) l
put_front {ws = ws} h k = let e = length-bytes ws in stored-front h.bytes (omega arith)

-- ---- room

-- where there is room for two runs, there is for the first
pub room-first : {l : List ℕ} {at : ℕ} (ws vs : List ℕ) → Room l at (ws ++ vs) → Room l at ws
room-first ws vs r = let e = length-append ws vs in record { fits = omega (arith, r.fits) }

-- .. and, when that is stored, for the second
pub room_next : {l : List ℕ} {at : ℕ} (ws vs : List ℕ) {p : ℕ} {b : List ℕ} → Room l at (ws ++ vs) → Put l at ws p b → Room b p vs
room_next ws vs r k =
    let e = length-append ws vs in let x = put-end k in let y = put-long k in record { fits = omega (arith, r.fits) }

-- the same fields
pub room_as : {l : List ℕ} {at : ℕ} {ws vs : List ℕ} → ws ≡ vs → Room l at ws → Room l at vs
room_as e r = let n = ap length e in record { fits = omega (arith, r.fits) }

-- ---- several runs, one after another

-- of all these fields, those before the runs that are left are stored, and the next goes to p
pub record Begun (l : List ℕ) (at : ℕ) (all : List ℕ) (p : ℕ) (left : List (List ℕ)) (b : List ℕ) : Type 0 where
  pub room : Room l at all
  pub fields : List ℕ
  pub put : Put l at fields p b
  pub rest : fields ++ flat left ≡ all

pub begun_first : {l : List ℕ} {at : ℕ} (runs : List (List ℕ)) → Room l at (flat runs) → Begun l at (flat runs) at runs l
begun_first {l} {at} runs r = record { room = r; fields = []; put = put-none l at; rest = refl }

module _ {l : List ℕ} {at : ℕ} {all : List ℕ} where
  begun-left : {p : ℕ} {b : List ℕ} {left : List (List ℕ)} → Begun l at all p left b → Room b p (flat left)
  begun-left {left = left} s = room_next s.fields (flat left) (room_as (sym s.rest) s.room) s.put

  -- room for the next run
  pub begun-room : {p : ℕ} {b ws : List ℕ} {left : List (List ℕ)} → Begun l at all p (ws ∷ left) b → Room b p ws
  unfolding flat
  begun-room {ws = ws} {left = left} s = room-first ws (flat left) (begun-left s)

  pub begun-next : {p r : ℕ} {b d ws : List ℕ} {left : List (List ℕ)} → Begun l at all p (ws ∷ left) b → Put b p ws r d
      → Begun l at all r left d
  unfolding flat
  begun-next {ws = ws} {left = left} s k =
      record {
        room = s.room;
        fields = s.fields ++ ws;
        put = put_then s.put k;
        rest = append_assoc s.fields ws (flat left) ∙ s.rest;
      }

  pub begun-end : {p : ℕ} {b : List ℕ} → Begun l at all p [] b → Put l at all p b
  unfolding flat
  begun-end s = put_as (sym (append-nil s.fields) ∙ s.rest) s.put

-- ---- a list, number by number

pub list-none : (l : List ℕ) (at : ℕ) (xs : List ℕ) → Put l at (sized 0 xs) at l
unfolding sized table
list-none l at xs = put-none l at

pub list-more : {l : List ℕ} {at : ℕ} (xs : List ℕ) (i : ℕ) {x p r : ℕ} {b d : List ℕ}
    → Put l at (sized i xs) p b → x ≡ get_or xs i 0 → Put b p (x ∷ []) r d → Put l at (sized (i + 1) xs) r d
list-more xs i h e k = put_as (sym (sized-more i xs)) (put_then h (put_as (ap (λ (y : ℕ). y ∷ []) e) k))

pub list-room : {l : List ℕ} {at : ℕ} {n : ℕ} (xs : List ℕ) (i : ℕ) {x p : ℕ} {b : List ℕ}
    → Room l at (sized n xs) → i < n → Put l at (sized i xs) p b → Room b p (x ∷ [])
list-room {n = n} xs i r h k =
    let e = sized-length n xs in
    let f = sized-length i xs in let x = put-end k in let y = put-long k in record { fits = omega (arith, r.fits) }

-- ---- a grid, row by row

pub grid-none : (l : List ℕ) (at m : ℕ) (g : Grid) → Put l at (flat (sized_grid 0 m g)) at l
grid-none l at m g = put_as (sized-flat-none m g) (put-none l at)

pub grid-more : {l : List ℕ} {at : ℕ} (m : ℕ) (g : Grid) (i : ℕ) {p r : ℕ} {b d : List ℕ}
    → Put l at (flat (sized_grid i m g)) p b → Put b p (sized m (get_or g i [])) r d → Put l at (flat (sized_grid (i + 1) m g)) r d
grid-more m g i h k = put_as (sym (sized-flat-more i m g)) (put_then h k)

pub grid-room : {l : List ℕ} {at : ℕ} {n : ℕ} (m : ℕ) (g : Grid) (i : ℕ) (xs : List ℕ) {p : ℕ} {b : List ℕ}
    → Room l at (flat (sized_grid n m g)) → i < n → Put l at (flat (sized_grid i m g)) p b → Room b p (sized m xs)
grid-room {n = n} m g i xs r h k =
    let e = sized-flat-length n m g in
    let f = sized-flat-length i m g in
    let w = sized-length m xs in
    let q = mul-le-mul_right m h in
    let x = put-end k in let y = put-long k in record { fits = omega (arith, r.fits) }

-- ---- what may be missing: no numbers, no rows

pub list-if : (t : Bool) (n : ℕ) (xs : List ℕ) → sized (size_if t n) xs ≡ fields_if t (sized n xs)
unfolding sized table
list-if true n xs = refl
list-if false n xs = refl

pub one-if : (t : Bool) (x : ℕ) → sized (size_if t 1) (x ∷ []) ≡ fields_if t (x ∷ [])
one-if t x = list-if t 1 (x ∷ []) ∙ ap (fields_if t) (sized-one x)

pub grid-if : (t : Bool) (n m : ℕ) (g : Grid) → flat (sized_grid (size_if t n) m g) ≡ fields_if t (flat (sized_grid n m g))
grid-if true n m g = refl
grid-if false n m g = sym (sized-flat-none m g)
