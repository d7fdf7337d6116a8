-- The one relation between an instance of the crate `fairness` and memory, that of a sheet, and how large the numbers may be.
use Rattle.std.specs.Prelude.{◌≡◌, cond, List, ℕ, ◌≤◌, ◌<◌, get_or, replicate}
use Rattle.fairness.specs.Classes.{class_weights}
use Rattle.fairness.specs.Instance.{Instance}
use Rattle.model.specs.Book.{Grid, cell}
use Rattle.dayfile.specs.declared.Book as Memory
use Rattle.instance.specs.declared.Terms.{Terms}

-- the instance that the numbers and the caps in memory are
abbrev pub instance_in : Terms → Grid → Instance
instance_in t caps =
    record {
      seats = t.seats;
      windows = t.windows;
      cap = cell caps;
      supply = λ j. get_or t.supplies j 0;
      weight = λ i. get_or t.weights i 0;
      base = λ i. get_or t.bases i 0;
      position = λ i. get_or t.positions i 0;
    }

-- the balances in force: those of the book in memory, or zeros where there are none
abbrev pub balances_in_force : Memory.Book → List ℕ
balances_in_force m = cond m.has_balances m.balances (replicate 32 0)

-- the weights in force of classes 1 to 8: those of the book in memory, or paper 01's where there are none
abbrev pub weights_in_force : Memory.Book → List ℕ
weights_in_force m = cond m.has_weights m.weights class_weights

-- the used numbers in memory are those of an instance; only used entries count
pub record Told (I : Instance) (t : Terms) (caps : Grid) : Type 0 where
  pub seats_are : I.seats ≡ t.seats
  pub windows_are : I.windows ≡ t.windows
  pub caps_are : (i j : ℕ) → i < t.seats → j < t.windows → I.cap i j ≡ cell caps i j
  pub supplies_are : (j : ℕ) → j < t.windows → I.supply j ≡ get_or t.supplies j 0
  pub weights_are : (i : ℕ) → i < t.seats → I.weight i ≡ get_or t.weights i 0
  pub bases_are : (i : ℕ) → i < t.seats → I.base i ≡ get_or t.bases i 0
  pub positions_are : (i : ℕ) → i < t.seats → I.position i ≡ get_or t.positions i 0

-- the used cells of a grid in memory are those of a sheet S
abbrev pub Shows : Terms → (ℕ → ℕ → ℕ) → Grid → Type 0
Shows t S grid = (i j : ℕ) → i < t.seats → j < t.windows → S i j ≡ cell grid i j

-- the ranges of a book's numbers, with room for more than paper 02's balances
pub record Ranged (t : Terms) : Type 0 where
  pub seats_most : t.seats ≤ 32
  pub windows_most : t.windows ≤ 24
  pub supplies_most : (j : ℕ) → j < t.windows → get_or t.supplies j 0 ≤ 4095
  pub weights_least : (i : ℕ) → i < t.seats → 1 ≤ get_or t.weights i 0
  pub weights_most : (i : ℕ) → i < t.seats → get_or t.weights i 0 ≤ 1000
  pub bases_most : (i : ℕ) → i < t.seats → get_or t.bases i 0 ≤ 100000
  pub positions_differ : (i k : ℕ) → i < t.seats → k < t.seats → get_or t.positions i 0 ≡ get_or t.positions k 0 → i ≡ k

-- the same with the caps
pub record Small (t : Terms) (caps : Grid) : Type 0 where
  pub ranged : Ranged t
  pub caps_most : (i j : ℕ) → i < t.seats → j < t.windows → cell caps i j ≤ 4095
