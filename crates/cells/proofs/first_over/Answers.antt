-- `cells::first_over` meets its contract: no window passed yet is over its supply.
use Rattle.std.specs.Prelude.{Some}
use mathlib.Core.Path.{ap, ◌∙◌}
use Prim.Native.Nat.{ℕ, ◌+◌, ◌*◌}
use Rattle.dayfile.specs.Table.{offset}
use Rattle.dayfile.proofs.Search.{search-first, search-on, search-hit, search-end}
use Rattle.cells.specs.Firsts.{first_over}
use Rattle.cells.proofs.Sheets.{is_below, not-below, supply-at}
use Rattle.cells.proofs.first_over.Goals as goal

pub loop-j-init : goal.loop-j-init
loop-j-init c = search-first c.windows-m.ensures.0

pub returns-then-field-placed : goal.returns-then-field-placed
unfolding first_over
returns-then-field-placed c =
    let at = c.start-at.ensures.0 in
    let test = is_below (supply-at _ _ at c.field.ensures.0) c.placed.ensures c.if-field-placed.true in
    ap Some (ap (λ (a : ℕ). a + 2 * c.loop-j.j) at)
    ∙ ap (offset _) (search-hit c.loop-j.invariant c.loop-j-test.true test)

pub loop-j-preserved : goal.loop-j-preserved
loop-j-preserved c =
    let at = c.start-at.ensures.0 in
    let test = not-below (supply-at _ _ at c.field.ensures.0) c.placed.ensures c.if-field-placed.false in
    search-on c.loop-j.invariant c.loop-j-test.true test

pub returns : goal.returns
unfolding first_over
returns c = ap (offset _) (search-end c.loop-j.invariant c.loop-j-test.false)
