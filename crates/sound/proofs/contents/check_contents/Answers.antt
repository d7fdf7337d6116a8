use mathlib.Core.Path.{sym, ◌∙◌}
use lib.ListN.{take, drop}
use Rattle.dayfile.specs.Table.{contents_lines}
use Rattle.dayfile.proofs.Lines.{stop-in, on-after}
use Rattle.dayfile.proofs.Answers.{refuses, passes}
use Rattle.sound.proofs.contents.check_contents.Goals as goal

pub returns-in-Refused : goal.returns-in-Refused
unfolding contents_lines
returns-in-Refused c =
    sym (stop-in (take 3 (contents_lines _)) (drop 3 (contents_lines _)) _
    (refuses c.check_header.ensures c.in-Refused.is))

pub returns : goal.returns
unfolding contents_lines
returns c =
    c.check_entries.ensures
    ∙ sym (on-after (take 3 (contents_lines _)) (drop 3 (contents_lines _))
    (passes c.check_header.ensures c.in_default.is))
