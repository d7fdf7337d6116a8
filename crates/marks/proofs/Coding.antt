-- A loop that writes the moves of an exchange path, three bytes each. Assumes nothing.
use mathlib.Core.Path.{◌≡◌, refl, ap, ◌∙◌}
use mathlib.Core.List.{List, [], ◌∷◌, ◌++◌, map}
use Prim.Native.Nat.{ℕ, ◌+◌, ◌*◌, ◌≤◌, ◌<◌}
use native.Mathlib.Numerals.{add-one}
use native.Mathlib.Omega.{arith}
use lib.ListN.{length, take, get_or, set, length-map, get_or-map}
use lib.Seq.{take-suc, take_all}
use Rattle.lists.specs.Buffers.{Stored}
use Rattle.lists.proofs.Alls.{all-at}
use Rattle.lists.proofs.Buffers.{stored-none, stored-byte, stored-as, stored-front}
use Rattle.fairness.specs.Exchange.{All}
use Rattle.dayfile.specs.Memory.{front}
use Rattle.sheet.specs.declared.Move.{Move}
use Rattle.sheet.specs.Sheets.{move_of}
use Rattle.paths.specs.declared.Path.{Path}
use Rattle.paths.specs.Paths.{moves_of}
use Rattle.exchange.specs.Paths.{InByte, Writable}
use Rattle.model.specs.Marks.{move_bytes}
use Rattle.model.proofs.Moves.{move-bytes-length}

-- the bytes of the first i moves of an array
abbrev pub coded : ℕ → List Move → List ℕ
coded i ms = move_bytes (map move_of (take i ms))

bytes-append : (xs : List Move) (m : Move) →
    move_bytes (map move_of (xs ++ (m ∷ []))) ≡
    move_bytes (map move_of xs) ++ ((m.window + 1) ∷ []) ++ ((m.giver + 1) ∷ []) ++ ((m.taker + 1) ∷ [])
unfolding move_bytes
bytes-append [] m = refl
bytes-append (x ∷ xs) m =
    ap (λ (l : List ℕ). (x.window + 1) ∷ (x.giver + 1) ∷ (x.taker + 1) ∷ l) (bytes-append xs m)

-- ---- no move yet, one move more, and all of them

pub coded_none : (ms : List Move) (b : List ℕ) → Stored b 0 (coded 0 ms) b 0
unfolding move_bytes
coded_none ms b = stored-none

pub coded-more : (ms : List Move) (i : ℕ) (d : Move) {b b₀ : List ℕ} → i < length ms → Stored b₀ 0 (coded i ms) b (3 * i) →
    Stored b₀ 0 (coded (i + 1) ms)
    (set (set (set b (3 * i) ((get_or ms i d).window + 1)) (3 * i + 1) ((get_or ms i d).giver + 1)) (3 * i + 2) ((get_or ms i d).taker + 1))
    (3 * (i + 1))
coded-more ms i d {b} {b₀} l s =
    let m = get_or ms i d in
    let three = stored-byte (m.taker + 1) (stored-byte (m.giver + 1) (stored-byte (m.window + 1) s)) in
    let grown : coded (i + 1) ms ≡ coded i ms ++ ((m.window + 1) ∷ []) ++ ((m.giver + 1) ∷ []) ++ ((m.taker + 1) ∷ []) =
    rw (add-one i, take-suc ms i d l) (bytes-append (take i ms) m) in
    let place : 3 * i + 1 + 1 ≡ 3 * i + 2 = omega arith in
    let end : 3 * i + 1 + 1 + 1 ≡ 3 * (i + 1) = omega arith in
    rw (grown, ← place, ← end) three

-- ---- a path that can be written, and its moves

module _ (path : Path) (w : Writable path) (ms : List Move) (e : ms ≡ take path.count path.moves) where
  same : map move_of ms ≡ moves_of path
  same = ap (map move_of) e

  pub byte_at : (i : ℕ) (d : Move) → i < length ms → InByte (move_of (get_or ms i d))
  byte_at i d l =
      let all : All InByte (map move_of ms) = rw same w.small in
      rw (get_or-map move_of ms i d) at (all-at InByte (move_of d) (map move_of ms) i all (omega (arith, length-map ms move_of)))

  pub coded-all : {b b₀ : List ℕ} (i : ℕ) → length ms ≤ i → 3 * path.count ≤ length b₀ → Stored b₀ 0 (coded i ms) b (3 * i)
      → i ≤ length ms → b ≡ front (move_bytes (moves_of path)) b₀
  unfolding front
  coded-all {b} {b₀} i g long s l =
      let whole : Stored b₀ 0 (move_bytes (moves_of path)) b (3 * i) =
      stored-as (ap (λ (xs : List Move). move_bytes (map move_of xs)) (take_all i ms g) ∙ ap move_bytes same) s in
      let count = ap length same in
      stored-front whole (omega (arith, move-bytes-length (moves_of path), w.counted, count, length-map ms move_of))
