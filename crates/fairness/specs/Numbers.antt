-- What the tests of an exchange path ask of their numbers, so that no product overflows. Paper 01's heights go up to 98,280 and its
-- weights up to 40; the bounds leave room for balances and for other tables of weights.
use Rattle.std.specs.Prelude.{ℕ, ◌≤◌}

pub record Moderate (height weight : ℕ) : Type 0 where
  pub height_most : height ≤ 200000
  pub weight_least : 1 ≤ weight
  pub weight_most : weight ≤ 1000
