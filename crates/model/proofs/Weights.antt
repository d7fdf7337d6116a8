-- The weight of a class in a table: at least 1, the table's own where that is at least 1, and paper 01's in paper 01's table.
-- Assumes nothing.
use mathlib.Core.Path.{◌≡◌, refl}
use mathlib.Core.List.{List}
use Prim.Native.Nat.{ℕ, zero, suc, ◌-◌, ◌≤◌}
use native.Mathlib.Omega.{arith}
use lib.ListN.{get_or}
use Rattle.fairness.specs.Classes.{class_weights, weight_of}
use Rattle.fairness.proofs.Weights.{weight-bounds}
use Rattle.model.specs.Book.{positive, weight_in}

least : (x : ℕ) → 1 ≤ positive x
least zero = omega arith
least (suc x) = omega arith

same : (x : ℕ) → 1 ≤ x → positive x ≡ x
same zero l = absurd (omega arith)
same (suc x) l = refl

pub weight_least : (ws : List ℕ) (class : ℕ) → 1 ≤ weight_in ws class
unfolding weight_in
weight_least ws class = least (get_or ws (class - 1) 1)

pub weight-as : (ws : List ℕ) (class : ℕ) → 1 ≤ get_or ws (class - 1) 1 → weight_in ws class ≡ get_or ws (class - 1) 1
unfolding weight_in
weight-as ws class l = same (get_or ws (class - 1) 1) l

pub weight-built-in : (class : ℕ) → weight_in class_weights class ≡ weight_of class
unfolding weight_of
weight-built-in class = weight-as class_weights class (weight-bounds class).0
