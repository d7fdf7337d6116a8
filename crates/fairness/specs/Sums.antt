-- Finite sums of a function on ℕ, and a number that counts only where a decision says yes.
use Rattle.std.specs.Prelude.{ℕ, zero, suc, ◌+◌}

-- Σ_{i < n} f i
unfoldable pub sum : ℕ → (ℕ → ℕ) → ℕ
sum zero f = 0
sum (suc n) f = sum n f + f n

-- x where the decision is yes, 0 where it is no
abbrev pub keep : {P : Type 0} → Dec P → ℕ → ℕ
keep (yes p) x = x
keep (no q) x = 0

-- the sum of f over the members of a decided set
abbrev pub over : {P : ℕ → Type 0} → ((i : ℕ) → Dec (P i)) → ℕ → (ℕ → ℕ) → ℕ
over in? n f = sum n (λ i. keep (in? i) (f i))
