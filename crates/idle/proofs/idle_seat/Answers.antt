-- `idle::idle_seat` meets its contract: no row passed yet is all zero.
use mathlib.Core.Path.{refl, sym, ◌∙◌}
use Rattle.dayfile.proofs.Search.{search-first, search-on, search-hit, search-end}
use Rattle.idle.proofs.idle_seat.Goals as goal

pub loop-i-init : goal.loop-i-init
loop-i-init c = search-first refl

pub returns-then-all_zero : goal.returns-then-all_zero
returns-then-all_zero c =
    search-hit c.loop-i.invariant c.loop-i-test.true (sym c.all_zero.ensures ∙ c.if-all_zero.true)

pub loop-i-preserved : goal.loop-i-preserved
loop-i-preserved c =
    search-on c.loop-i.invariant c.loop-i-test.true (sym c.all_zero.ensures ∙ c.if-all_zero.false)

pub returns : goal.returns
returns c = search-end c.loop-i.invariant c.loop-i-test.false
