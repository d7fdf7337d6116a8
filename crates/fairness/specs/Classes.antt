-- Paper 01's fee classes, and the weight of each.
use Rattle.std.specs.Prelude.{◌≡◌, List, [], ◌∷◌, ℕ, ◌-◌, ◌≤◌, get_or}

-- the weights of classes 1 to 8
abbrev pub class_weights : List ℕ
class_weights = 1 ∷ 2 ∷ 3 ∷ 5 ∷ 8 ∷ 12 ∷ 20 ∷ 40 ∷ []

-- a class's weight; what is no class counts as 1
unfoldable pub weight_of : ℕ → ℕ
weight_of class = get_or class_weights (class - 1) 1

-- a class's weight, with its bounds
pub record ClassWeight (class r : ℕ) : Type 0 where
  pub exact : r ≡ weight_of class
  pub least : 1 ≤ r
  pub most : r ≤ 40
