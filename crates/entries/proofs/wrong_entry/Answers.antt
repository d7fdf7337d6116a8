use mathlib.Core.Bool.{not}
use mathlib.Core.Path.{ap}
use Prim.Native.Nat.{ℕ, ◌+◌, ◌*◌}
use native.Mathlib.Omega.{arith}
use Rattle.dayfile.specs.Table.{offset}
use Rattle.dayfile.proofs.Tests.{turned}
use Rattle.dayfile.proofs.Search.{search-first, search-on, search-hit, search-end}
use Rattle.entries.proofs.wrong_entry.Goals as goal

-- the offset of an entry's field
abbrev place : ℕ → ℕ → ℕ
place at e = at + 6 * e

pub loop-e-init : goal.loop-e-init
loop-e-init c = search-first c.count-n.ensures.0

pub returns-then-not-entry_right : goal.returns-then-not-entry_right
returns-then-not-entry_right c =
    let wrong = turned c.entry_right.ensures (ap not c.if-not-entry_right.true) in
    ap (offset (place _)) (search-hit c.loop-e.invariant (omega arith) wrong)

pub loop-e-preserved : goal.loop-e-preserved
loop-e-preserved c =
    search-on c.loop-e.invariant (omega arith) (turned c.entry_right.ensures (ap not c.if-not-entry_right.false))

pub returns : goal.returns
returns c = ap (offset (place _)) (search-end c.loop-e.invariant (omega arith))
