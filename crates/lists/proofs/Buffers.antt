-- Bytes stored in a buffer from a place on: one after another, one text after another, and from the front. Where a loop stores bytes,
-- `Stored` of what is stored so far is its invariant: `stored-none` at its entry, `stored-byte` or `stored_next` at a turn.
use mathlib.Core.Path.{◌≡◌, refl, ap, ap₂, sym, subst, ◌∙◌}
use mathlib.Core.List.{List, [], ◌∷◌, ◌++◌}
use Prim.Native.Nat.{ℕ, suc, ◌+◌, ◌≤◌, ◌<◌, zero-le}
use native.Mathlib.Numerals.{add-one}
use native.Mathlib.Omega.{arith}
use lib.ListN.{length, take, drop, get_or, set, length-set, length-append}
use lib.Seq.{sets, sets-eq, length-sets, set_comm, take-suc, take-length}
use Rattle.lists.specs.Buffers.{put_at, Room, Stored}

-- ---- stores one after the other

module _ {A : Type 0} where
  pub sets-append : (xs ys b : List A) (at : ℕ) → sets (sets b at xs) (at + length xs) ys ≡ sets b at (xs ++ ys)
  sets-append [] ys b at = ap (λ (k : ℕ). sets b k ys) (omega arith)
  sets-append (x ∷ xs) ys b at =
      ap (λ (k : ℕ). sets (sets (set b at x) (suc at) xs) k ys) {x = at + suc (length xs)} {y = suc at + length xs} (omega arith)
      ∙ sets-append xs ys (set b at x) (suc at)

  -- a store in front of them
  pub set-sets : (ys b : List A) (i j : ℕ) (v : A) → i < j → set (sets b j ys) i v ≡ sets (set b i v) j ys
  set-sets [] b i j v h = refl
  set-sets (y ∷ ys) b i j v h =
      set-sets ys (set b j y) i (suc j) v (omega arith)
      ∙ ap (λ (l : List A). sets l (suc j) ys) (set_comm b j i y v (λ e. omega arith))

  -- from the front on: they stand there, and the rest of the buffer behind them
  pub sets-front : (b xs : List A) → length xs ≤ length b → sets b 0 xs ≡ xs ++ drop (length xs) b
  sets-front b xs h =
      sets-eq xs b 0 (omega arith) ∙ ap (λ (k : ℕ). xs ++ drop k b) {x = 0 + length xs} {y = length xs} (omega arith)

-- ---- the buffer

pub put-length : (b : List ℕ) (at : ℕ) (xs : List ℕ) → length (put_at b at xs) ≡ length b
unfolding put_at
put-length b at xs = length-sets b at xs

-- text after text is one text
pub put-put : (b : List ℕ) (at : ℕ) (xs ys : List ℕ) → put_at (put_at b at xs) (at + length xs) ys ≡ put_at b at (xs ++ ys)
unfolding put_at
put-put b at xs ys = sets-append xs ys b at

-- one byte more behind
pub put_last : (b : List ℕ) (at : ℕ) (xs : List ℕ) (v : ℕ) → set (put_at b at xs) (at + length xs) v ≡ put_at b at (xs ++ (v ∷ []))
unfolding put_at
put_last b at xs v = sets-append xs (v ∷ []) b at

-- one byte more in front
pub put_first : (b : List ℕ) (at : ℕ) (ys : List ℕ) (v : ℕ) → set (put_at b (suc at) ys) at v ≡ put_at b at (v ∷ ys)
unfolding put_at
put_first b at ys v = set-sets ys b at (suc at) v (omega arith)

-- what is stored from the front on stands there, and the rest of the buffer behind it
pub put_front : (b xs : List ℕ) → length xs ≤ length b → put_at b 0 xs ≡ xs ++ drop (length xs) b
unfolding put_at
put_front b xs h = sets-front b xs h

-- ---- room, and one text after another

module _ {b : List ℕ} {at : ℕ} where
  -- where there is room for two texts, there is for the first
  pub room-first : (xs ys : List ℕ) → Room b at (xs ++ ys) → Room b at xs
  room-first xs ys r = record { fits = omega (arith, r.fits, length-append xs ys) }

  -- .. and, when that is stored, for the second
  pub room_next : (xs ys : List ℕ) {b' : List ℕ} {m : ℕ} → Room b at (xs ++ ys) → Stored b at xs b' m → Room b' m ys
  room_next xs ys r s =
      record { fits = omega (arith, r.fits, length-append xs ys, s.place, ap length s.buffer ∙ put-length b at xs) }

  -- nothing is stored
  pub stored-none : Stored b at [] b at
  unfolding put_at
  stored-none = record { buffer = refl; place = omega arith }

  -- one byte more
  pub stored-byte : {xs b' : List ℕ} {m : ℕ} (v : ℕ) → Stored b at xs b' m → Stored b at (xs ++ (v ∷ [])) (set b' m v) (m + 1)
  stored-byte {xs} {b'} {m} v s =
      record {
        buffer = ap₂ (λ (l : List ℕ) (k : ℕ). set l k v) s.buffer s.place ∙ put_last b at xs v;
        place = omega (arith, s.place, length-append xs (v ∷ []));
      }

  -- one text more
  pub stored_next : {xs ys b' b'' : List ℕ} {m n : ℕ} → Stored b at xs b' m → Stored b' m ys b'' n → Stored b at (xs ++ ys) b'' n
  stored_next {xs} {ys} s t =
      record {
        buffer = t.buffer ∙ rw (s.buffer, s.place) (put-put b at xs ys);
        place = omega (arith, s.place, t.place, length-append xs ys);
      }

  -- the buffer is as long as it was
  pub stored-length : {xs b' : List ℕ} {m : ℕ} → Stored b at xs b' m → length b' ≡ length b
  stored-length {xs} s = ap length s.buffer ∙ put-length b at xs

  -- text that is the same
  pub room_as : {xs ys : List ℕ} → xs ≡ ys → Room b at xs → Room b at ys
  room_as e r = subst (Room b at) e r

  pub stored-as : {xs ys b' : List ℕ} {m : ℕ} → xs ≡ ys → Stored b at xs b' m → Stored b at ys b' m
  stored-as {b' = b'} {m = m} e s = subst (λ (l : List ℕ). Stored b at l b' m) e s

-- from the front on
pub stored-front : {b xs b' : List ℕ} {m : ℕ} → Stored b 0 xs b' m → length xs ≤ length b → b' ≡ xs ++ drop (length xs) b
stored-front {b} {xs} s h = s.buffer ∙ put_front b xs h

-- ---- a loop that copies a list of bytes, when i of them are done

pub record Copied (before : List ℕ) (at : ℕ) (src after : List ℕ) (i : ℕ) : Type 0 where
  pub within : i ≤ length src
  pub same : length after ≡ length before
  pub so_far : Stored before at (take i src) after (at + i)

module _ {b : List ℕ} {at : ℕ} {src : List ℕ} where
  pub copied-first : Copied b at src b 0
  copied-first =
      record { within = zero-le; same = refl; so_far = record { buffer = stored-none.buffer; place = omega arith } }

  pub copied_next : {c : List ℕ} {i : ℕ} → Copied b at src c i → i < length src → Copied b at src (set c (at + i) (get_or src i 0)) (i + 1)
  copied_next {c} {i} h l =
      let more = stored-byte (get_or src i 0) h.so_far in
      let one : take i src ++ (get_or src i 0 ∷ []) ≡ take (i + 1) src =
      sym (ap (λ (k : ℕ). take k src) (add-one i) ∙ take-suc src i 0 l) in
      record {
        within = omega arith;
        same = length-set c (at + i) _ ∙ h.same;
        so_far = record { buffer = (stored-as one more).buffer; place = omega (arith, (stored-as one more).place) };
      }

  pub copied-end : {c : List ℕ} {i : ℕ} → Copied b at src c i → length src ≤ i → Stored b at src c (at + i)
  copied-end {c} {i} h l =
      let e : i ≡ length src = omega (arith, h.within) in
      stored-as (ap (λ (k : ℕ). take k src) e ∙ take-length src) h.so_far
