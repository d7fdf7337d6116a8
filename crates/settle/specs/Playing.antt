-- Exchange paths that are played.
use Rattle.std.specs.Prelude.{◌≡◌, List, [], ◌∷◌, ℕ}
use Rattle.fairness.specs.Exchange.{Move, play, play_all}
use Rattle.sheet.specs.Sheets.{Playable}

-- the arrays can take each move on the sheet that the moves before it left
abbrev pub AllPlayable : (ℕ → ℕ → ℕ) → List Move → Type 0
AllPlayable S [] = Unit {0}
AllPlayable S (m ∷ ms) = Playable S m × AllPlayable (play S m) ms

-- T is the sheet after all moves
abbrev pub Plays : (ℕ → ℕ → ℕ) → List Move → (ℕ → ℕ → ℕ) → Type 0
Plays S ms T = (i j : ℕ) → T i j ≡ play_all S ms i j
