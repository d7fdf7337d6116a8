-- What the code's numbers, read from a file, say of the lines 14 and 15. Assumes nothing.
use mathlib.Core.Path.{◌≡◌, refl, ◌∙◌}
use mathlib.Core.Bool.{true, false}
use mathlib.Core.List.{List}
use Rattle.std.specs.Prelude.{None, Some}
use Prim.Native.Nat.{ℕ, ◌+◌, ◌*◌, ◌≤◌, ◌<◌}
use native.Mathlib.Nat.{lt_trans}
use native.Mathlib.Omega.{arith}
use lib.Dec.{ltb}
use borrow.Author.Tests.{lt-ltb, le-ltb}
use Rattle.fairness.specs.Sums.{sum}
use Rattle.sheet.proofs.Sums.{Summed, next}
use Rattle.dayfile.specs.Layout.{field, start, seats_in, windows_in, entry_of}
use Rattle.dayfile.specs.Table.{cell_at, placed_in, line14, line15}
use Rattle.fields.proofs.Products.{small}
use Rattle.cells.specs.Firsts.{first_above, first_over}

-- two numbers that the code has compared
pub is_below : {a b x y : ℕ} → a ≡ x → b ≡ y → a < b → ltb x y ≡ true
is_below {a} {b} {x} {y} p q l = lt-ltb x y (omega arith)

pub not-below : {a b x y : ℕ} → a ≡ x → b ≡ y → b ≤ a → ltb x y ≡ false
not-below {a} {b} {x} {y} p q l = le-ltb x y (omega arith)

-- ---- line 14

pub above_as : (f : List ℕ) {e at most n m : ℕ} →
    entry_of f 4 ≡ Some e → at ≡ start f e → most ≡ start f 2 → n ≡ seats_in f → m ≡ windows_in f →
    first_above f at most (n * m) ≡ line14 f
unfolding line14 first_above
above_as f h p q r s = rw (h, p, q, r, s) refl

pub none_above : (f : List ℕ) → entry_of f 4 ≡ None → None ≡ line14 f
unfolding line14
none_above f h = rw h refl

-- ---- line 15

-- the cell of seat i, where a body that starts at `at` has rows of m cells
abbrev pub cell_in_field : List ℕ → ℕ → ℕ → ℕ → ℕ → ℕ
cell_in_field f at m j i = field f (at + 2 * (i * m + j))

-- a row's place is small enough
pub row_small : {i n m : ℕ} → i < n → n < 32768 → m < 32768 → i * m < 1073741824
row_small l p q = small (lt_trans l p) q

-- one cell more
pub add-cell : (f : ℕ → ℕ) (n k t : ℕ) {r : ℕ} → Summed f n k t → k < n → r ≡ f k → r < 65536 → Summed f n (k + 1) (t + r)
add-cell f n k t s l e h = rw e (next f n k t s l (rw e at h))

pub placed-is : (f : List ℕ) (e j : ℕ) {at n m : ℕ} → at ≡ start f e → n ≡ seats_in f → m ≡ windows_in f →
    sum n (cell_in_field f at m j) ≡ placed_in f e j
placed-is f e j p q r = rw (p, q, r) refl

-- a supply, where the body of the supplies starts at `at`
pub supply-at : (f : List ℕ) (j : ℕ) {at r : ℕ} → at ≡ start f 1 → r ≡ field f (at + 2 * j) → r ≡ field f (cell_at f 1 j)
supply-at f j p e = e ∙ rw p refl

pub over-as : (f : List ℕ) {e : ℕ} → entry_of f 4 ≡ Some e → first_over f e ≡ line15 f
unfolding line15 first_over
over-as f h = rw h refl

pub none_over : (f : List ℕ) → entry_of f 4 ≡ None → None ≡ line15 f
unfolding line15
none_over f h = rw h refl
