use mathlib.Core.Path.{sym, ◌∙◌}
use Rattle.dayfile.specs.Table.{contents_lines, length_lines, value_lines, read_lines}
use Rattle.dayfile.proofs.Lines.{stop-in, on-after}
use Rattle.dayfile.proofs.Answers.{refuses, passes}
use Rattle.sound.proofs.check.Goals as goal

pub returns-in-Refused : goal.returns-in-Refused
unfolding read_lines
returns-in-Refused c =
    sym (stop-in (contents_lines _) _ _ (refuses c.check_contents.ensures c.in-Refused.is))

pub returns-in-Refused-check_lengths : goal.returns-in-Refused-check_lengths
unfolding read_lines
returns-in-Refused-check_lengths c =
    sym (on-after (contents_lines _) _ (passes c.check_contents.ensures c.in_default.is)
    ∙ stop-in (length_lines _) _ _ (refuses c.check_lengths.ensures c.in-Refused-check_lengths.is))

pub returns-in-Refused-check_values : goal.returns-in-Refused-check_values
unfolding read_lines
returns-in-Refused-check_values c =
    sym (on-after (contents_lines _) _ (passes c.check_contents.ensures c.in_default.is)
    ∙ on-after (length_lines _) _ (passes c.check_lengths.ensures c.in_default-check_lengths.is)
    ∙ stop-in (value_lines _) _ _ (refuses c.check_values.ensures c.in-Refused-check_values.is))

pub returns : goal.returns
unfolding read_lines
returns c =
    c.check_options.ensures
    ∙ sym (on-after (contents_lines _) _ (passes c.check_contents.ensures c.in_default.is)
    ∙ on-after (length_lines _) _ (passes c.check_lengths.ensures c.in_default-check_lengths.is)
    ∙ on-after (value_lines _) _ (passes c.check_values.ensures c.in_default-check_values.is))
