-- `marker::mark_reading` meets its contract: a refusal of the first line that holds, or the mark of the sheet in memory.
use Rattle.dayfile.proofs.Answers.{refuses, passes}
use Rattle.marker.proofs.Files.{refused-marks, has_room, markable, marked-marks}
use Rattle.marker.proofs.mark_reading.Goals as goal

pub check_file-requires : goal.check_file-requires
check_file-requires c = c.requires

pub returns-in-Refused : goal.returns-in-Refused
returns-in-Refused c = refused-marks _ _ _ _ (refuses c.check_file.ensures c.in-Refused.is)

pub mark_sheet-requires : goal.mark_sheet-requires
mark_sheet-requires c =
    let passed = passes c.check_file.ensures c.in_default.is in
    let moves = c.args.moves.now in record {
      markable = markable _ moves passed _ c.requires _ _ c.to_grid.ensures c.to_grid-2.ensures;
      moves_room_in_bounds = has_room _ moves passed;
    }

pub returns : goal.returns
returns c =
    let passed = passes c.check_file.ensures c.in_default.is in
    marked-marks _ c.args.moves.now passed _ c.requires _ _ c.to_grid.ensures c.to_grid-2.ensures
    _ _ c.mark_sheet.ensures
