-- Every class's weight is 1 to 40: a computed test over the table, and the law that turns it into the fact at each entry.
use mathlib.Core.Path.{◌≡◌, refl}
use mathlib.Core.Bool.{Bool, true, ◌&&◌}
use mathlib.Core.List.{List, [], ◌∷◌}
use Prim.Native.Nat.{ℕ, zero, suc, ◌-◌, ◌≤◌, ◌<◌}
use native.Mathlib.Omega.{arith}
use lib.Dec.{leb}
use lib.ListN.{length, get_or}
use borrow.Author.Tests.{leb-true}
use Rattle.fairness.specs.Classes.{class_weights, weight_of}
use Rattle.fairness.proofs.Bools.{and_parts}

-- a test at every entry
every : (ℕ → Bool) → List ℕ → Bool
every f [] = true
every f (x ∷ xs) = f x && every f xs

get_d-every : (f : ℕ → Bool) (xs : List ℕ) (d : ℕ) → every f xs ≡ true → f d ≡ true → (k : ℕ) → f (get_or xs k d) ≡ true
unfolding every
get_d-every f [] d t u k = u
get_d-every f (x ∷ xs) d t u zero = (and_parts (f x) (every f xs) t).0
get_d-every f (x ∷ xs) d t u (suc k) = get_d-every f xs d (and_parts (f x) (every f xs) t).1 u k

-- whatever the class, its weight is 1 to 40
pub weight-bounds : (class : ℕ) → (1 ≤ weight_of class) × (weight_of class ≤ 40)
unfolding weight_of every
weight-bounds class =
    let p = and_parts (leb 1 (weight_of class)) (leb (weight_of class) 40)
    (get_d-every (λ x. leb 1 x && leb x 40) class_weights 1 refl refl (class - 1)) in
    (leb-true 1 (weight_of class) p.0, leb-true (weight_of class) 40 p.1)

-- within a list it does not matter what stands for the entries past its end
pub get_d-inside : (xs : List ℕ) (d e k : ℕ) → k < length xs → get_or xs k d ≡ get_or xs k e
get_d-inside [] d e k l = absurd (omega arith)
get_d-inside (x ∷ xs) d e zero l = refl
get_d-inside (x ∷ xs) d e (suc k) l = get_d-inside xs d e k (omega arith)
