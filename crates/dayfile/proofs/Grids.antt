-- A grid's numbers in one list.
-- Assumes nothing.
use mathlib.Core.List.{List, [], ◌∷◌, ◌++◌, append_assoc, append-nil}
use mathlib.Core.Path.{◌≡◌, refl, sym, ◌∙◌, ap, subst}
use Prim.Native.Nat.{ℕ, zero, suc, ◌+◌, ◌-◌, ◌*◌, ◌≤◌, ◌<◌}
use native.Mathlib.Nat.{not-suc-le-zero, le_of_suc-le-suc, mul-le-mul_right}
use native.Mathlib.Decide.{dec_lt}
use native.Mathlib.Omega.{arith}
use lib.ListN.{length, get_or, length-append, get_or-append}
use lib.Seq.{get_or-append-add, ext_get_or}
use Rattle.model.specs.Book.{Grid, Shaped, cell}
use Rattle.dayfile.specs.Layout.{field, fields_at, grid_at}
use Rattle.dayfile.specs.File.{flat}
use Rattle.fairness.specs.Leximin.{table}
use Rattle.dayfile.specs.Memory.{sized, sized_grid}
use Rattle.dayfile.proofs.Tables.{sized-shaped, sized-grid-more}
use Rattle.dayfile.proofs.Fields.{fields-length, fields-at, grid-row, grid-shaped}

rest-shaped : (n m : ℕ) (r : List ℕ) (g : Grid) → Shaped (suc n) m (r ∷ g) → Shaped n m g
rest-shaped n m r g s =
    record { rows = (let e = s.rows in omega arith); row = λ i h. s.row (suc i) (omega arith) }

pub flat_append : (a b : Grid) → flat (a ++ b) ≡ flat a ++ flat b
unfolding flat
flat_append [] b = refl
flat_append (r ∷ a) b = ap (λ (x : List ℕ). r ++ x) (flat_append a b) ∙ sym (append_assoc r (flat a) (flat b))

pub flat-length : (n m : ℕ) (g : Grid) → Shaped n m g → length (flat g) ≡ n * m
unfolding flat
flat-length zero m [] s = omega arith
flat-length (suc n) m [] s = let e = s.rows in absurd (omega arith)
flat-length zero m (r ∷ g) s = let e = s.rows in absurd (omega arith)
flat-length (suc n) m (r ∷ g) s =
    length-append r (flat g)
    ∙ (let e = flat-length n m g (rest-shaped n m r g s) in let q = s.row 0 (omega arith) in omega arith)

pub flat-at : (n m : ℕ) (g : Grid) → Shaped n m g → (i j : ℕ) → i < n → j < m → get_or (flat g) (i * m + j) 0 ≡ cell g i j
unfolding flat
flat-at zero m g s i j h k = absurd (not-suc-le-zero h)
flat-at (suc n) m [] s i j h k = let e = s.rows in absurd (omega arith)
flat-at (suc n) m (r ∷ g) s zero j h k =
    ap (λ (x : ℕ). get_or (r ++ flat g) x 0) {x = zero * m + j} {y = j} (omega arith)
    ∙ get_or-append r (flat g) 0 j (let e = s.row 0 (omega arith) in omega arith)
flat-at (suc n) m (r ∷ g) s (suc i) j h k =
    ap (λ (x : ℕ). get_or (r ++ flat g) x 0) {x = suc i * m + j} {y = length r + (i * m + j)}
    (let e = s.row 0 (omega arith) in omega arith)
    ∙ get_or-append-add r (flat g) (i * m + j) 0
    ∙ flat-at n m g (rest-shaped n m r g s) i j (le_of_suc-le-suc h) k

-- a number of the list is a cell
pub flat-cell : (n m : ℕ) (g : Grid) → Shaped n m g → (P : ℕ → Type 0) → ((i j : ℕ) → i < n → j < m → P (cell g i j))
    → (k : ℕ) → k < length (flat g) → P (get_or (flat g) k 0)
unfolding flat
flat-cell zero m [] s P h k l = absurd (not-suc-le-zero l)
flat-cell (suc n) m [] s P h k l = let e = s.rows in absurd (omega arith)
flat-cell zero m (r ∷ g) s P h k l = let e = s.rows in absurd (omega arith)
flat-cell (suc n) m (r ∷ g) s P h k l =
    let wide : length r ≡ m = s.row 0 (omega arith) in
    let all = length-append r (flat g) in
    let rest = flat-cell n m g (rest-shaped n m r g s) P (λ i j p t. h (suc i) j (omega arith) t) in
    elim (dec_lt k (length r)) [
      | yes q ↦ subst P (sym (get_or-append r (flat g) 0 k q)) (h 0 k (omega arith) (omega arith))
      | no q ↦ subst P (sym (later (omega arith))) (rest (k - length r) (omega arith))
    ]
  where
    later : length r ≤ k → get_or (r ++ flat g) k 0 ≡ get_or (flat g) (k - length r) 0
    later q =
        ap (λ (x : ℕ). get_or (r ++ flat g) x 0) {x = k} {y = length r + (k - length r)} (omega arith)
        ∙ get_or-append-add r (flat g) (k - length r) 0

-- a grid of the first rows and columns: its length, and one more row
pub sized-flat-length : (n m : ℕ) (g : Grid) → length (flat (sized_grid n m g)) ≡ n * m
sized-flat-length n m g = flat-length n m (sized_grid n m g) (sized-shaped n m g)

pub sized-flat-none : (m : ℕ) (g : Grid) → [] ≡ flat (sized_grid 0 m g)
unfolding flat sized_grid table
sized-flat-none m g = refl

pub sized-flat-more : (n m : ℕ) (g : Grid) → flat (sized_grid (n + 1) m g) ≡ flat (sized_grid n m g) ++ sized m (get_or g n [])
unfolding flat
sized-flat-more n m g =
    ap flat (sized-grid-more n m g)
    ∙ flat_append (sized_grid n m g) (sized m (get_or g n []) ∷ [])
    ∙ ap (λ (xs : List ℕ). flat (sized_grid n m g) ++ xs) (append-nil (sized m (get_or g n [])))

-- a grid read where its numbers lie
pub grid-there : (f : List ℕ) (at n m : ℕ) (g : Grid) → Shaped n m g → fields_at f at (length (flat g)) ≡ flat g → grid_at f at n m ≡ g
grid-there f at n m g s q =
    let read = grid-shaped f at n m in
    let len : length (flat g) ≡ n * m = flat-length n m g s in
    ext_get_or [] (grid_at f at n m) g (read.rows ∙ sym s.rows) (λ i p.
    let i< : i < n = (let r = read.rows in omega arith) in
    let most : i * m + m ≤ n * m = (let k = mul-le-mul_right m i< in omega arith) in
    let here : ℕ = at + 2 * (i * m) in
    grid-row f at n m i i<
    ∙ ext_get_or 0 (fields_at f here m) (get_or g i []) (fields-length f here m ∙ sym (s.row i i<)) (λ j r.
    let j< : j < m = (let l = fields-length f here m in omega arith) in
    fields-at f here m j j<
    ∙ ap (field f) {x = here + 2 * j} {y = at + 2 * (i * m + j)} (omega arith)
    ∙ sym (fields-at f at (length (flat g)) (i * m + j) (omega arith))
    ∙ ap (λ (ys : List ℕ). get_or ys (i * m + j) 0) q
    ∙ flat-at n m g s i j i< j<))
