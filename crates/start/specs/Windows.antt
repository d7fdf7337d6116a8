-- Sets of windows, as masks of bits.
use Rattle.std.specs.Prelude.{◌≡◌, ℕ, ◌≤◌}
use Rattle.masks.specs.Sets.{bit}

-- a grid has all windows of the set m
abbrev pub InGrid : ℕ → Type 0
InGrid m = (k : ℕ) → 24 ≤ k → bit m k ≡ 0
