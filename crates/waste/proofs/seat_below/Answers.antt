-- `waste::seat_below` meets its contract: no seat passed yet is below its cap.
use borrow.Author.Tests.{lt-ltb, le-ltb}
use mathlib.Core.Bool.{Bool}
use mathlib.Core.Path.{refl}
use Prim.Native.Nat.{ℕ}
use lib.Dec.{ltb}
use Rattle.model.specs.Book.{Grid, cell}
use Rattle.dayfile.proofs.Search.{search-first, search-on, search-hit, search-end}
use Rattle.waste.specs.Wastes.{lowest_below}
use Rattle.waste.proofs.seat_below.Goals as goal

abbrev below : Grid → Grid → ℕ → ℕ → Bool
below cells caps j i = ltb (cell cells i j) (cell caps i j)

pub returns-then-cells-i : goal.returns-then-cells-i
unfolding lowest_below
returns-then-cells-i c =
    search-hit c.loop-i.invariant c.loop-i-test.true (lt-ltb _ _ c.if-cells-i.true)

pub loop-i-preserved : goal.loop-i-preserved
loop-i-preserved c =
    search-on c.loop-i.invariant c.loop-i-test.true (le-ltb _ _ c.if-cells-i.false)

pub returns : goal.returns
unfolding lowest_below
returns c = search-end c.loop-i.invariant c.loop-i-test.false

pub loop-i-init : goal.loop-i-init
loop-i-init c = search-first refl
