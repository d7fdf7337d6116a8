use mathlib.Core.Path.{refl}
use Rattle.fairness.specs.Leximin.{table}
use Rattle.dayfile.specs.Memory.{sized}
use Rattle.reader.proofs.day.no_day.Goals as goal

pub returns : goal.returns
unfolding sized table
returns c =
    record {
      seats_are = refl;
      windows_are = refl;
      classes_are = refl;
      supplies_are = refl;
      caps_are = c.no_grid.ensures;
      has_first_is = refl;
      first_is = refl;
      has_balances_is = refl;
      balances_are = refl;
      has_weights_is = refl;
      weights_are = refl;
      has_sheet_is = refl;
      sheet_is = c.no_grid-2.ensures;
    }
