-- The bodies of a file that no line turns away lie within it. Assumes nothing.
use mathlib.Core.Path.{◌≡◌, refl, ap, ap₂, ◌∙◌}
use mathlib.Core.List.{List, [], ◌∷◌}
use Rattle.std.specs.Prelude.{Option, None, Some}
use Prim.Native.Nat.{ℕ, zero, suc, ◌+◌, ◌-◌, ◌*◌, ◌≤◌, ◌<◌, zero-le}
use native.Mathlib.Omega.{arith}
use lib.Dec.{eqb}
use lib.ListN.{length, get_or, take, drop}
use lib.Seq.{get_or-take, drop-nil}
use lib.Arith.{digits_lt}
use Rattle.model.specs.Lowest.{value_or, and_then}
use Rattle.model.proofs.Lowest.{lowest-some}
use Rattle.lists.proofs.Tables.{table_same}
use Rattle.dayfile.specs.Layout.{field, count, kind, start, size, ends, entry_of, seats_in, windows_in, fields_at, grid_at, sheet_of}
use Rattle.dayfile.specs.Layout.{marked_sheet, sheet_start, sheet_size, sheet_body}
use Rattle.dayfile.proofs.Sound.{Sound}
use Rattle.dayfile.proofs.ReadWrites.{ends_next, even, entry-size}

module _ (f : List ℕ) (s : Sound f) where
  ends-inside : (m e : ℕ) → e + m ≡ count f → ends f e ≤ length f
  ends-inside zero e q = omega (arith, ap (ends f) {x = e} {y = count f} (omega arith), s.last)
  ends-inside (suc m) e q =
      omega (arith, ends-inside m (suc e) (omega arith), ends_next f s e, s.starts e (omega arith))

  pub body-inside : (e m : ℕ) → suc e + m ≡ count f → start f e + size f e ≤ length f
  body-inside e m q = omega (arith, ends-inside m (suc e) q, ends_next f s e)

  pub sheet-inside : sheet_start f + sheet_size f ≤ length f
  unfolding entry_of
  sheet-inside = go (entry_of f 4) refl
    where
      go : (o : Option ℕ) → entry_of f 4 ≡ o →
          value_or (and_then o (λ e. Some (start f e))) 0 + value_or (and_then o (λ e. Some (size f e))) 0 ≤ length f
      go None q = zero-le
      go (Some e) q =
          let b = (lowest-some (count f) (λ j. eqb (kind f j) 4) e q).below in
          body-inside e (count f - suc e) (omega arith)

-- ---- a part of a file, and what its fields say

dropped : (s : ℕ) (f : List ℕ) (i : ℕ) → get_or (drop s f) i 0 ≡ get_or f (s + i) 0
dropped zero f i = ap (λ (k : ℕ). get_or f k 0) {x = i} {y = 0 + i} (omega arith)
dropped (suc s) [] i = ap (λ (xs : List ℕ). get_or xs i 0) (drop-nil (suc s))
dropped (suc s) (x ∷ xs) i = dropped s xs i ∙ ap (λ (k : ℕ). get_or (x ∷ xs) k 0) {x = suc (s + i)} {y = suc s + i} (omega arith)

part_field : (f : List ℕ) (s z at : ℕ) → at + 1 < z → field (take z (drop s f)) at ≡ field f (s + at)
unfolding field
part_field f s z at l =
    ap₂ (λ (x y : ℕ). x + 256 * y) (get_or-take z (drop s f) at 0 (omega arith) ∙ dropped s f at)
    (get_or-take z (drop s f) (at + 1) 0 l ∙ dropped s f (at + 1)
    ∙ ap (λ (k : ℕ). get_or f k 0) {x = s + (at + 1)} {y = s + at + 1} (omega arith))

-- the sheet body by itself is the grid of the sheet
module _ (f : List ℕ) (s : Sound f) (e : ℕ) (entry : entry_of f 4 ≡ Some e) where
  pub sheet-grid : grid_at (sheet_body f) 0 (seats_in f) (windows_in f) ≡ marked_sheet f
  unfolding grid_at fields_at sheet_body sheet_of entry_of
  sheet-grid =
      rw entry
      (table_same (seats_in f) _ _ (λ i li. table_same (windows_in f) _ _ (λ j lj. here i j li lj)))
    where
      size_is : size f e ≡ 2 * (seats_in f * windows_in f)
      size_is =
          let there = (lowest-some (count f) (λ j. eqb (kind f j) 4) e entry).below in
          omega (arith, even f s e there, entry-size f s 4 e entry)

      here : (i j : ℕ) → i < seats_in f → j < windows_in f →
          field (take (size f e) (drop (start f e) f)) (0 + 2 * (i * windows_in f) + 2 * j)
          ≡ field f (start f e + 2 * (i * windows_in f) + 2 * j)
      here i j li lj =
          let cell : i * windows_in f + j < seats_in f * windows_in f = digits_lt li lj in
          part_field f (start f e) (size f e) (0 + 2 * (i * windows_in f) + 2 * j) (omega (arith, size_is))
          ∙ ap (field f) {x = start f e + (0 + 2 * (i * windows_in f) + 2 * j)}
          {y = start f e + 2 * (i * windows_in f) + 2 * j} (omega arith)
