use mathlib.Core.Bool.{true}
use mathlib.Core.List.{[], ◌∷◌}
use mathlib.Core.Path.{ap}
use Prim.Native.Nat.{ℕ}
use Rattle.store.specs.Stores.{slot, slots_of}
use Rattle.store.proofs.contents.slots_of.Goals as goal

pub returns : goal.returns
unfolding slots_of
returns c =
    let b = c.args.book in
    let t = c.args.has_sheet in
    let one = slot 5 b.has_first 1 in
    let each = slot 6 b.has_balances b.seats in
    let eight = slot 7 b.has_weights 8 in
    ap (λ (g : ℕ). slot 1 true b.seats ∷ slot 2 true b.windows ∷ slot 3 true g ∷ slot 4 t g ∷ one ∷ each ∷ eight ∷ [])
    c.cells-grid.ensures
