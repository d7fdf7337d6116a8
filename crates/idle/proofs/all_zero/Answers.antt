-- `idle::all_zero` meets its contract: no cap passed yet is above 0.
use mathlib.Core.Bool.{not}
use Rattle.std.specs.Prelude.{Option}
use mathlib.Core.Path.{refl, ap}
use Prim.Native.Nat.{ℕ}
use borrow.Author.Tests.{eq-eqb, ne_eqb}
use Rattle.model.specs.Lowest.{is_some}
use Rattle.model.specs.Book.{all_zero}
use Rattle.dayfile.proofs.Search.{search-first, search-on, search-hit, search-end}
use Rattle.idle.proofs.all_zero.Goals as goal

pub loop-w-init : goal.loop-w-init
loop-w-init c = search-first refl

pub returns-then-row-w-ne0 : goal.returns-then-row-w-ne0
unfolding all_zero
returns-then-row-w-ne0 c =
    ap (λ (o : Option ℕ). not (is_some o)) (search-hit c.loop-w.invariant c.loop-w-test.true (ap not (ne_eqb _ _ c.if-row-w-ne0.true)))

pub loop-w-preserved : goal.loop-w-preserved
loop-w-preserved c =
    search-on c.loop-w.invariant c.loop-w-test.true (ap not (eq-eqb _ _ c.if-row-w-ne0.false))

pub returns : goal.returns
unfolding all_zero
returns c = ap (λ (o : Option ℕ). not (is_some o)) (search-end c.loop-w.invariant c.loop-w-test.false)
