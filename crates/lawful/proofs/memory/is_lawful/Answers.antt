-- `lawful::memory::is_lawful` meets its contract: cell by cell, and window by window.
use borrow.Author.Tests.{not-false}
use mathlib.Core.Bool.{true≢false}
use mathlib.Core.Path.{sym}
use Rattle.lawful.proofs.Lawfulness.{lawful-in}
use Rattle.lawful.proofs.memory.is_lawful.Goals as goal

pub returns : goal.returns
returns c e = (
  not-false _ c.if-not-day.false,
  lawful-in c.args.day.book _ _ c.placed.result (c.within_caps.ensures c.if-not-within_caps.false)
      c.placed.ensures (c.within_supplies.ensures e),
)

pub returns-then-not-day : goal.returns-then-not-day
returns-then-not-day c = λ e. absurd (true≢false (sym e))

pub returns-then-not-within_caps : goal.returns-then-not-within_caps
returns-then-not-within_caps c = λ e. absurd (true≢false (sym e))
