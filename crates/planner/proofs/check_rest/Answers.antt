-- `planner::check_rest` meets its contract: line 22, and behind it line 16.
use mathlib.Core.Path.{ap, ◌∙◌}
use Rattle.dayfile.specs.Table.{planned_length}
use Rattle.dayfile.proofs.Used.{range-in, planned-size}
use Rattle.planner.proofs.Steps.{rest-told}
use Rattle.planner.proofs.check_rest.Goals as goal

pub file_length-requires : goal.file_length-requires
file_length-requires c = range-in c.args.book _ c.requires.1

pub returns : goal.returns
returns c =
    let caps = c.args.caps.now in
    let need = c.file_length.ensures caps caps ∙ planned-size c.args.book caps caps ∙ ap planned_length c.requires.0 in
    rest-told _ _ _ need c.first_check.ensures c.check_idle-idle.ensures c.check_room-short.ensures
