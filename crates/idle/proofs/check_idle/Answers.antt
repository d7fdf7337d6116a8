-- `idle::check_idle` meets its contract: line 22 by what was found in memory.
use borrow.Author.Rules.{rules}
use Prim.Native.Nat.{◌<◌}
use Rattle.dayfile.proofs.Answers.{at-line, no_line}
use Rattle.dayfile.proofs.Used.{range-in}
use Rattle.idle.proofs.Lines.{idle-below, idle-told, none_idle}
use Rattle.idle.proofs.check_idle.Goals as goal

pub idle_seat-requires : goal.idle_seat-requires
idle_seat-requires c = range-in c.args.book _ c.requires.1

pub returns-in-At : goal.returns-in-At
returns-in-At c =
    idle-told _ c.args.book _ c.requires.0 c.requires.1 _ (at-line c.idle_seat.ensures c.in-At.is) _
    c.start.ensures.0

pub returns : goal.returns
returns c =
    none_idle _ c.args.book _ c.requires.0 c.requires.1 (no_line c.idle_seat.ensures c.in_default.is)

pub overflow_mul-result : goal.overflow_mul-result
overflow_mul-result c =
    let below : c.in-At.seat < 32 = idle-below _ c.args.book _ c.requires.0 c.requires.1 _ (at-line c.idle_seat.ensures c.in-At.is) in
    search (rules, below)

pub overflow_add-result : goal.overflow_add-result
overflow_add-result c =
    let below : c.in-At.seat < 32 = idle-below _ c.args.book _ c.requires.0 c.requires.1 _ (at-line c.idle_seat.ensures c.in-At.is) in
    search (rules, below)
