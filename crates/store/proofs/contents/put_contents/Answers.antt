use native.Mathlib.Omega.{arith}
use Rattle.store.proofs.Slots.{head_first, head-next, head-put}
use Rattle.store.proofs.contents.put_contents.Goals as goal

pub put-p-requires : goal.put-p-requires
put-p-requires c =
    let n = c.count_entries-n.ensures in
    (head_first c.args.slots n.0 c.requires.1, omega (arith, n.1))

pub put_entries-requires : goal.put_entries-requires
put_entries-requires c =
    let n = c.count_entries-n.ensures in
    (c.requires.0, head-next c.args.slots n.0 c.requires.1 c.put-p.ensures, omega (arith, c.requires.2, n.1))

pub returns : goal.returns
returns c =
    head-put _ c.count_entries-n.ensures.0 c.put-p.ensures c.put_entries.ensures
