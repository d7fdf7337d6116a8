-- Arrays that are filled from the front.
use Rattle.std.specs.Prelude.{List, ◌≡◌, ℕ, ◌≤◌, ◌<◌, length, get_or}

-- An array of n entries, of which a loop fills the first m. It has filled i: each of these has P. The others are still those of `old`.
-- Past the end of an array stands d.
pub record Filled {A : Type 0} (P : ℕ → A → Type 0) (d : A) (n m : ℕ) (old : List A) (i : ℕ) (xs : List A) : Type 0 where
  pub room : m ≤ n
  pub within : i ≤ m
  pub size : length xs ≡ n
  pub entry : (k : ℕ) → k < i → P k (get_or xs k d)
  pub rest : (k : ℕ) → i ≤ k → get_or xs k d ≡ get_or old k d
