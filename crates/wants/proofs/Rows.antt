-- A want taken of a row, grids that are made row by row, and seats served in turn. Assumes nothing.
use mathlib.Core.Path.{◌≡◌, ap, ◌∙◌}
use mathlib.Core.List.{List, []}
use Prim.Native.Nat.{ℕ, min, ◌+◌, ◌-◌, ◌≤◌, ◌<◌}
use native.Mathlib.Numerals.{add-one}
use native.Mathlib.Omega.{arith}
use native.Mathlib.Decide.{ℕ_discrete}
use lib.ListN.{length, get_or, set, length-set}
use lib.Seq.{get_or-set_same, get_or-set_other}
use Rattle.lists.proofs.Arrays.{Filled, filled_at}
use Rattle.fairness.specs.Sums.{sum}
use Rattle.fairness.specs.Instance.{Feasible}
use Rattle.fairness.proofs.Sums.{sum-zero, sum-suc, sum-eq}
use Rattle.model.specs.Book.{Grid, cell}
use Rattle.instance.specs.declared.Terms.{Terms}
use Rattle.instance.specs.Terms.{instance_in}
use Rattle.wants.specs.Steps.{trimmed}

-- what a further window leaves of a want
pub left-next : (want left kept w : ℕ) (row : ℕ → ℕ) → kept ≡ min (row w) left → left ≡ want - sum w row →
    left - kept ≡ want - sum (w + 1) row
left-next want left kept w row k e = omega (arith, ap (λ (n : ℕ). sum n row) (add-one w) ∙ sum-suc w row)

-- the first i of n rows are made: m cells of each are those of a sheet
abbrev pub Made : (ℕ → ℕ → ℕ) → ℕ → ℕ → Grid → ℕ → Grid → Type 0
Made S n m old i grid = Filled (λ k row. (j : ℕ) → j < m → get_or row j 0 ≡ S k j) [] 32 n old i grid

pub made-cell : (S : ℕ → ℕ → ℕ) (n m : ℕ) (old : Grid) (i : ℕ) (grid : Grid) → Made S n m old i grid → n ≤ i →
    (k j : ℕ) → k < n → j < m → cell grid k j ≡ S k j
made-cell S n m old i grid made l k j lk lj = filled_at made l k lk j lj

-- ---- a want taken of one row

pub trimmed-same : (want : ℕ) (f g : ℕ → ℕ) (m j : ℕ) → j < m → ((k : ℕ) → k < m → f k ≡ g k) → trimmed want f j ≡ trimmed want g j
trimmed-same want f g m j l same = omega (arith, same j l, sum-eq j f g (λ k lk. same k (omega arith)))

-- ---- seats served in turn

-- the first i of n seats are served: what they have in a window and what is left of it are its supply, and no cell is above its cap
pub record Served (n m : ℕ) (caps : Grid) (supplies : List ℕ) (i : ℕ) (left : List ℕ) (grid : Grid) : Type 0 where
  pub within : i ≤ n
  pub long : length grid ≡ 32
  pub capped : (k j : ℕ) → k < i → j < m → cell grid k j ≤ cell caps k j
  pub left_are : (j : ℕ) → j < m → sum i (λ k. cell grid k j) + get_or left j 0 ≡ get_or supplies j 0

module _ {n m : ℕ} {caps : Grid} {supplies : List ℕ} where
  pub served-first : (grid : Grid) → length grid ≡ 32 → Served n m caps supplies 0 supplies grid
  served-first grid long =
      record {
        within = omega arith;
        long = long;
        capped = λ k j lk lj. absurd (omega arith);
        left_are = λ j lj. omega (arith, sum-zero (λ k. cell grid k j));
      }

  module _ {i : ℕ} {left : List ℕ} {grid : Grid} (s : Served n m caps supplies i left grid) (li : i < n) (few : n ≤ 32)
      (row rest : List ℕ) (want : ℕ)
      (taken : (j : ℕ) → j < m → get_or row j 0 ≡ trimmed want (λ k. min (get_or left k 0) (cell caps i k)) j)
      (rests : (j : ℕ) → j < m → get_or rest j 0 + get_or row j 0 ≡ get_or left j 0) where
    here : (j : ℕ) → cell (set grid i row) i j ≡ get_or row j 0
    here j = ap (λ (r : List ℕ). get_or r j 0) (get_or-set_same grid i row [] (omega (arith, s.long)))

    there : (k j : ℕ) → (k ≡ i → ⊥) → cell (set grid i row) k j ≡ cell grid k j
    there k j d = ap (λ (r : List ℕ). get_or r j 0) (get_or-set_other grid i k row [] d)

    pub served-next : Served n m caps supplies (i + 1) rest (set grid i row)
    served-next =
        record {
          within = omega arith;
          long = length-set grid i row ∙ s.long;
          capped = λ k j lk lj.
              elim (ℕ_discrete k i) [
                | yes e ↦ rw e (omega (arith, here j, taken j lj))
                | no d ↦ omega (arith, there k j d, s.capped k j (omega arith) lj)
              ];
          left_are = λ j lj.
              let before = sum-eq i (λ k. cell (set grid i row) k j) (λ k. cell grid k j) (λ k lk. there k j (λ e. omega arith)) in
              let more = ap (λ (x : ℕ). sum x (λ k. cell (set grid i row) k j)) (add-one i) ∙ sum-suc i (λ k. cell (set grid i row) k j) in
              omega (arith, before, more, here j, rests j lj, s.left_are j lj);
        }

-- what is taken is no more than is left
pub taken-less : (want : ℕ) (left most : List ℕ) (j : ℕ) (x : ℕ) → x ≡ trimmed want (λ k. min (get_or left k 0) (get_or most k 0)) j →
    x ≤ get_or left j 0
taken-less want left most j x e = omega arith

-- all seats are served
pub served-feasible : (t : Terms) (caps : Grid) (i : ℕ) (left : List ℕ) (grid : Grid) →
    Served t.seats t.windows caps t.supplies i left grid → t.seats ≤ i → Feasible (instance_in t caps) (cell grid)
served-feasible t caps i left grid s l =
    let e : i ≡ t.seats = omega (arith, s.within) in
    record {
      within = λ k j lk lj. s.capped k j (omega arith) lj;
      fits = λ j lj. omega (arith, ap (λ (x : ℕ). sum x (λ k. cell grid k j)) e, s.left_are j lj);
    }
