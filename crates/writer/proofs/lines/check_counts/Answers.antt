use mathlib.Core.Bool.{not}
use Rattle.std.specs.Prelude.{None}
use mathlib.Core.Path.{refl, sym, ◌∙◌, ap}
use Rattle.model.specs.Lowest.{when}
use Rattle.dayfile.specs.Table.{within}
use Rattle.dayfile.specs.declared.Book.{Book}
use Rattle.dayfile.proofs.Lines.{three-as}
use Rattle.writer.proofs.Checks.{seven, eight}
use Rattle.writer.proofs.lines.check_counts.Goals as goal

pub returns : goal.returns
returns c = λ d e.
    three-as 7 {c = None} c.first_of.ensures
    (c.outside_at.ensures ∙ ap (λ (x : Book). when (not (within 1 32 x.seats)) 6) (sym e) ∙ sym (seven d))
    (c.outside_at-2.ensures ∙ ap (λ (x : Book). when (not (within 1 24 x.windows)) 12) (sym e) ∙ sym (eight d)) refl
