use mathlib.Core.List.{List}
use mathlib.Core.Path.{◌≡◌, ◌∙◌, ap, ap₂}
use Prim.Native.Nat.{ℕ}
use Rattle.dayfile.specs.Layout.{grid_at}
use Rattle.dayfile.specs.Memory.{held}
use Rattle.reader.proofs.day.grid_of.Goals as goal

-- a grid read at what the contents tell
grid-as : (f : List ℕ) {a b n k m l : ℕ} → a ≡ b → n ≡ k → m ≡ l → held (grid_at f a n m) ≡ held (grid_at f b k l)
grid-as f {a} {b} {n} {k} {m} {l} p q r =
    ap₂ (λ (x y : ℕ). held (grid_at f x y m)) p q ∙ ap (λ (x : ℕ). held (grid_at f b k x)) r

pub returns : goal.returns
returns c =
    c.grid.ensures ∙ grid-as _ c.start.ensures.0 c.seats.ensures.0 c.windows.ensures.0
