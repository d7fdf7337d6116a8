-- `waste::wasted` meets its contract: no window passed yet is wasted.
use borrow.Author.Tests.{lt-ltb, le-ltb}
use mathlib.Core.Bool.{◌&&◌}
use mathlib.Core.Path.{refl, ap, ap₂}
use Rattle.model.specs.Lowest.{is_some}
use Rattle.dayfile.proofs.Search.{search-first, search-on, search-hit, search-end}
use Rattle.dayfile.proofs.Answers.{at-line, no_line}
use Rattle.waste.proofs.Wasting.{wasted-at, nowhere}
use Rattle.waste.proofs.wasted.Goals as goal
use Rattle.waste.proofs.wasted.Goals.{then-placed-window+in_default, else-placed-window}

pub returns-in-At : goal.returns-in-At
returns-in-At c =
    let placed = c.placed-placed in
    let found = at-line c.seat_below.ensures c.in-At.is in
    let here =
    search-hit c.loop-window.invariant c.loop-window-test.true (ap₂ ◌&&◌ (lt-ltb _ _ c.if-placed-window.true) (ap is_some found)) in
    wasted-at _ _ _ placed.result placed.ensures _ _ here c.loop-window-test.true found

pub loop-window-preserved : goal.loop-window-preserved
loop-window-preserved c =
    search-on c.loop-window.invariant c.loop-window-test.true
    (elim c.if-placed-window.branch [
      | then-placed-window+in_default w ↦ ap₂ ◌&&◌ (lt-ltb _ _ w.if-placed-window.true)
          (ap is_some (no_line w.seat_below.ensures w.in_default.is))
      | else-placed-window w ↦ rw (le-ltb _ _ w.if-placed-window.false) refl
    ])

pub returns : goal.returns
returns c =
    let placed = c.placed-placed in
    nowhere _ _ _ placed.result placed.ensures (search-end c.loop-window.invariant c.loop-window-test.false)

pub loop-window-init : goal.loop-window-init
loop-window-init c = search-first refl
