-- Grids and functions: every sheet of functions is that of a grid, on the cells that are used. Assumes nothing.
use mathlib.Core.Path.{◌≡◌, refl, sym, ap, ◌∙◌}
use mathlib.Core.List.{List, []}
use Prim.Native.Nat.{ℕ, ◌<◌}
use native.Mathlib.Nat.{le_trans, le_of_eq}
use native.Mathlib.Omega.{arith}
use lib.ListN.{length, get_or}
use lib.Seq.{ext_get_or}
use Rattle.fairness.specs.Instance.{Instance, Sheet, Feasible, placed}
use Rattle.fairness.specs.Leximin.{table, profile}
use Rattle.fairness.proofs.Sums.{sum-eq}
use Rattle.fairness.proofs.Alike.{Alike, alike-profile}
use Rattle.lists.proofs.Tables.{table-length}
pub use Rattle.lists.proofs.Tables.{table_at, table_same}
use Rattle.model.specs.Book.{Grid, cell, Shaped}

-- ---- a grid of a function

unfoldable pub grid_of : ℕ → ℕ → Sheet → Grid
grid_of n m T = table n (λ i. table m (T i))

pub grid_of-row : (n m : ℕ) (T : Sheet) (i : ℕ) → i < n → get_or (grid_of n m T) i [] ≡ table m (T i)
unfolding grid_of
grid_of-row n m T i li = table_at n (λ i. table m (T i)) i [] li

pub grid_of-cell : (n m : ℕ) (T : Sheet) (i j : ℕ) → i < n → j < m → cell (grid_of n m T) i j ≡ T i j
grid_of-cell n m T i j li lj = ap (λ (r : List ℕ). get_or r j 0) (grid_of-row n m T i li) ∙ table_at m (T i) j 0 lj

pub grid_of-shaped : (n m : ℕ) (T : Sheet) → Shaped n m (grid_of n m T)
unfolding grid_of
grid_of-shaped n m T =
    record { rows = table-length n (λ i. table m (T i)); row = λ i l. ap length (grid_of-row n m T i l) ∙ table-length m (T i) }

-- two grids of one shape with the same cells
pub shaped-same : (n m : ℕ) (s t : Grid) → Shaped n m s → Shaped n m t → ((i j : ℕ) → i < n → j < m → cell s i j ≡ cell t i j) → s ≡ t
shaped-same n m s t a b same =
    ext_get_or [] s t (a.rows ∙ sym b.rows) (λ i l.
    let li : i < n = omega (arith, a.rows) in
    ext_get_or 0 (get_or s i []) (get_or t i []) (a.row i li ∙ sym (b.row i li)) (λ j k. same i j li (omega (arith, a.row i li))))

-- ---- two sheets that agree on the cells that are used

module _ (I : Instance) where
  abbrev pub Agree : Sheet → Sheet → Type 0
  Agree S T = (i j : ℕ) → i < I.seats → j < I.windows → S i j ≡ T i j

  pub agree-placed : (S T : Sheet) → Agree S T → (j : ℕ) → j < I.windows → placed I S j ≡ placed I T j
  agree-placed S T e j lj = sum-eq I.seats (λ i. S i j) (λ i. T i j) (λ i li. e i j li lj)

  pub agree-feasible : (S T : Sheet) → Agree S T → Feasible I S → Feasible I T
  agree-feasible S T e h =
      record {
        within = λ i j li lj. le_trans (le_of_eq (sym (e i j li lj))) (h.within i j li lj);
        fits = λ j lj. le_trans (le_of_eq (sym (agree-placed S T e j lj))) (h.fits j lj);
      }

  pub agree-alike : (S T : Sheet) → Agree S T → Alike I I S T
  agree-alike S T e = record {
    seats = refl;
    windows = refl;
    caps = λ i j li lj. refl;
    supplies = λ j lj. refl;
    weights = λ i li. refl;
    bases = λ i li. refl;
    positions = λ i li. refl;
    cells = e;
  }

  pub agree-profile : (S T : Sheet) → Agree S T → profile I S ≡ profile I T
  agree-profile S T e = alike-profile I I S T (agree-alike S T e)
