-- Fields and bytes: what is read of bytes that were written, the bytes of what was read, and fields read as lists and grids.
-- Assumes nothing.
use mathlib.Core.List.{List, [], ◌∷◌, ◌++◌}
use mathlib.Core.Path.{◌≡◌, refl, sym, ◌∙◌, ap, ap₂}
use Prim.Native.Nat.{ℕ, zero, suc, ◌+◌, ◌*◌, ◌/◌, ◌%◌, ◌<◌}
use native.Mathlib.Nat.{mod-add-div}
use native.Mathlib.Omega.{arith}
use lib.ListN.{length, get_or}
use Rattle.model.specs.Book.{Shaped, cell}
use Rattle.dayfile.specs.Layout.{Bytes, field, fields_at, grid_at}
use Rattle.dayfile.specs.File.{bytes_of, flat}
use Rattle.lists.proofs.Tables.{table-length, table_at}
use Rattle.dayfile.proofs.Tables.{table-run, run, run-same, run-append}

-- ---- bytes that were written

pub length-bytes : (ws : List ℕ) → length (bytes_of ws) ≡ 2 * length ws
unfolding bytes_of
length-bytes [] = refl
length-bytes (x ∷ ws) = let e = length-bytes ws in omega arith

pub bytes-append : (a b : List ℕ) → bytes_of (a ++ b) ≡ bytes_of a ++ bytes_of b
unfolding bytes_of
bytes-append [] b = refl
bytes-append (x ∷ a) b = ap (λ (r : List ℕ). x % 256 ∷ x / 256 ∷ r) (bytes-append a b)

-- the k-th field of what was written
pub field-bytes : (ws : List ℕ) (k : ℕ) → field (bytes_of ws) (2 * k) ≡ get_or ws k 0
unfolding field bytes_of
field-bytes [] k = refl
field-bytes (x ∷ ws) zero = mod-add-div x 256
field-bytes (x ∷ ws) (suc k) =
    let l : List ℕ = x % 256 ∷ x / 256 ∷ bytes_of ws in
    ap₂ (λ (a b : ℕ). get_or l a 0 + 256 * get_or l b 0)
    {x = 2 * suc k} {y = suc (suc (2 * k))} {u = 2 * suc k + 1} {v = suc (suc (2 * k + 1))}
    (omega arith) (omega arith)
    ∙ field-bytes ws k

-- two-byte numbers are written as bytes
pub bytes_small : (ws : List ℕ) → ((k : ℕ) → get_or ws k 0 < 65536) → Bytes (bytes_of ws)
unfolding bytes_of
bytes_small [] h i = omega arith
bytes_small (x ∷ ws) h zero = omega arith
bytes_small (x ∷ ws) h (suc zero) = let p = h 0 in omega arith
bytes_small (x ∷ ws) h (suc (suc i)) = bytes_small ws (λ k. h (suc k)) i

-- ---- bytes that were read

two_fields : (a b : ℕ) (f : List ℕ) (i : ℕ) → field (a ∷ b ∷ f) (2 * (1 + i)) ≡ field f (2 * (0 + i))
unfolding field
two_fields a b f i =
    ap₂ (λ (u v : ℕ). get_or (a ∷ b ∷ f) u 0 + 256 * get_or (a ∷ b ∷ f) v 0)
    {x = 2 * (1 + i)} {y = suc (suc (2 * (0 + i)))} {u = 2 * (1 + i) + 1} {v = suc (suc (2 * (0 + i) + 1))}
    (omega arith) (omega arith)

-- the bytes of a file's fields are the file
pub bytes-fields : (n : ℕ) (f : List ℕ) → length f ≡ 2 * n → Bytes f → bytes_of (run (λ k. field f (2 * k)) 0 n) ≡ f
unfolding field bytes_of run
bytes-fields zero [] e h = refl
bytes-fields zero (a ∷ f) e h = absurd (omega arith)
bytes-fields (suc n) [] e h = absurd (omega arith)
bytes-fields (suc n) (a ∷ []) e h = absurd (omega arith)
bytes-fields (suc n) (a ∷ b ∷ f) e h =
    let p : a < 256 = h 0 in
    let x : (a + 256 * b) % 256 ≡ a = omega arith in
    let y : (a + 256 * b) / 256 ≡ b = omega arith in
    let rest : List ℕ = bytes_of (run (λ k. field (a ∷ b ∷ f) (2 * k)) 1 n) in
    let z : rest ≡ f =
    ap bytes_of (run-same (λ k. field (a ∷ b ∷ f) (2 * k)) (λ k. field f (2 * k)) 1 0 n (λ i q. two_fields a b f i))
    ∙ bytes-fields n f (omega arith) (λ i. h (suc (suc i))) in
    ap₂ (λ (u v : ℕ). u ∷ v ∷ rest) x y ∙ ap (λ (r : List ℕ). a ∷ b ∷ r) z

-- a field of a list of bytes is a two-byte number
pub field-small : (f : List ℕ) → Bytes f → (at : ℕ) → field f at < 65536
unfolding field
field-small f h at = omega (arith, h at, h (at + 1))

-- ---- n fields as a list

module _ (f : List ℕ) (at : ℕ) where
  abbrev from : ℕ → ℕ
  from i = field f (at + 2 * i)

  pub fields-run : (n : ℕ) → fields_at f at n ≡ run from 0 n
  unfolding fields_at
  fields-run n = table-run n from

  pub fields-length : (n : ℕ) → length (fields_at f at n) ≡ n
  unfolding fields_at
  fields-length n = table-length n from

  pub fields-at : (n i : ℕ) → i < n → get_or (fields_at f at n) i 0 ≡ field f (at + 2 * i)
  unfolding fields_at
  fields-at n i h = table_at n from i 0 h

pub fields-append : (f : List ℕ) (at m k : ℕ) → fields_at f at (m + k) ≡ fields_at f at m ++ fields_at f (at + 2 * m) k
fields-append f at m k =
    let shift : (i : ℕ) → field f (at + 2 * (0 + m + i)) ≡ field f (at + 2 * m + 2 * (0 + i)) =
    λ i. ap (field f) {x = at + 2 * (0 + m + i)} {y = at + 2 * m + 2 * (0 + i)} (omega arith) in
    fields-run f at (m + k)
    ∙ run-append (from f at) 0 m k
    ∙ ap₂ (λ (x y : List ℕ). x ++ y) (sym (fields-run f at m))
    (run-same (from f at) (from f (at + 2 * m)) (0 + m) 0 k (λ i h. shift i) ∙ sym (fields-run f (at + 2 * m) k))

-- ---- a grid

module _ (f : List ℕ) (at n m : ℕ) where
  abbrev row_at : ℕ → List ℕ
  row_at i = fields_at f (at + 2 * (i * m)) m

  pub grid-row : (i : ℕ) → i < n → get_or (grid_at f at n m) i [] ≡ fields_at f (at + 2 * (i * m)) m
  unfolding grid_at
  grid-row i h = table_at n row_at i [] h

  pub grid-shaped : Shaped n m (grid_at f at n m)
  unfolding grid_at
  grid-shaped =
      record {
        rows = table-length n row_at;
        row = λ i h. ap length (grid-row i h) ∙ fields-length f (at + 2 * (i * m)) m;
      }

  pub grid-cell : (i j : ℕ) → i < n → j < m → cell (grid_at f at n m) i j ≡ field f (at + 2 * (i * m + j))
  grid-cell i j h k =
      ap (λ (r : List ℕ). get_or r j 0) (grid-row i h)
      ∙ fields-at f (at + 2 * (i * m)) m j k
      ∙ ap (field f) {x = at + 2 * (i * m) + 2 * j} {y = at + 2 * (i * m + j)} (omega arith)

-- its rows, one after the other
rows-flat : (f : List ℕ) (at m n k : ℕ)
    → flat (run (λ i. fields_at f (at + 2 * (i * m)) m) k n) ≡ fields_at f (at + 2 * (k * m)) (n * m)
unfolding flat run
rows-flat f at m zero k = sym (fields-run f (at + 2 * (k * m)) 0) ∙ ap (fields_at f (at + 2 * (k * m))) {x = 0} {y = zero * m} (omega arith)
rows-flat f at m (suc n) k =
    let here : ℕ = at + 2 * (k * m) in
    ap (λ (r : List ℕ). fields_at f here m ++ r)
    (rows-flat f at m n (suc k)
    ∙ ap (λ (p : ℕ). fields_at f p (n * m)) {x = at + 2 * (suc k * m)} {y = here + 2 * m} (omega arith))
    ∙ sym (fields-append f here m (n * m))
    ∙ ap (fields_at f here) {x = m + n * m} {y = suc n * m} (omega arith)

pub flat-grid : (f : List ℕ) (at n m : ℕ) → flat (grid_at f at n m) ≡ fields_at f at (n * m)
unfolding grid_at
flat-grid f at n m =
    ap flat (table-run n (row_at f at n m))
    ∙ rows-flat f at m n 0
    ∙ ap (λ (p : ℕ). fields_at f p (n * m)) {x = at + 2 * (0 * m)} {y = at} (omega arith)
