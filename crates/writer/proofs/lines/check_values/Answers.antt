use mathlib.Core.Path.{◌∙◌, ap}
use Rattle.dayfile.specs.Table.{first_of}
use Rattle.dayfile.proofs.Lines.{three-as}
use Rattle.writer.proofs.Checks.{values-told}
use Rattle.writer.proofs.lines.check_values.Goals as goal

pub returns : goal.returns
returns c = λ d e f g.
    three-as 10 c.first_of.ensures c.outside_in.ensures c.outside_in-2.ensures c.above_in.ensures
    ∙ ap first_of (values-told d e f g)
