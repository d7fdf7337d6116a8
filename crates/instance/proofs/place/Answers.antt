-- `instance::place` meets its contract: the seats before the first one come after all others.
use borrow.Author.Tests.{lt-ltb, le-ltb}
use Rattle.model.specs.Book.{place_from}
use Rattle.dayfile.proofs.Tests.{cond_yes, cond_no}
use Rattle.instance.proofs.place.Goals as goal

pub returns-then-seat-first : goal.returns-then-seat-first
unfolding place_from
returns-then-seat-first c = cond_yes _ _ (lt-ltb _ _ c.if-seat-first.true)

pub returns-else-seat-first : goal.returns-else-seat-first
unfolding place_from
returns-else-seat-first c = cond_no _ _ (le-ltb _ _ c.if-seat-first.false)
