use mathlib.Core.Path.{◌∙◌, ap}
use mathlib.Core.Bool.{not}
use Prim.Native.Nat.{ℕ}
use Rattle.model.specs.Lowest.{when}
use Rattle.dayfile.specs.Table.{size_right, length_lines, line7, line8, line9}
use Rattle.dayfile.proofs.Lines.{three-as}
use Rattle.sound.proofs.lengths.check_lengths.Goals as goal

pub returns : goal.returns
unfolding length_lines line7 line8 line9
returns c =
    three-as 7 c.first_of.ensures
    (c.wrong_size-seats.ensures ∙ ap (λ (n : ℕ). when (not (size_right 2 64 n)) 6) c.size.ensures.0)
    (c.wrong_size-windows.ensures ∙ ap (λ (n : ℕ). when (not (size_right 2 48 n)) 12) c.size-2.ensures.0) c.wrong_entry.ensures
