use mathlib.Core.List.{[]}
use Rattle.std.specs.Prelude.{Option, Some}
use mathlib.Core.Path.{◌∙◌, ap, sym}
use Prim.Native.Nat.{ℕ}
use Rattle.model.specs.Lowest.{and_then, value_or, is_some}
use Rattle.dayfile.specs.Layout.{entry_of, grid_in, book_of, sheet_of}
use Rattle.dayfile.specs.Memory.{held}
use Rattle.dayfile.proofs.Accepted.{seats_are, windows_are}
use Rattle.dayfile.proofs.Answers.{there-as}
use Rattle.reader.proofs.day.day_of.Goals as goal

pub returns : goal.returns
unfolding book_of sheet_of
returns c =
    let f = c.args.file.now in
    let k = c.entry_of-entry.ensures.0 in
    record {
      seats_are = c.book_of-book.ensures.seats ∙ sym (seats_are f);
      windows_are = c.book_of-book.ensures.windows ∙ sym (windows_are f);
      classes_are = c.book_of-book.ensures.classes;
      supplies_are = c.book_of-book.ensures.supplies;
      caps_are = c.grid_of-caps.ensures;
      has_first_is = c.book_of-book.ensures.has_first;
      first_is = c.book_of-book.ensures.first;
      has_balances_is = c.book_of-book.ensures.has_balances;
      balances_are = c.book_of-book.ensures.balances;
      has_weights_is = c.book_of-book.ensures.has_weights;
      weights_are = c.book_of-book.ensures.weights;
      has_sheet_is = c.is_there-has_sheet.ensures ∙ ap is_some k ∙ there-as (grid_in f) (entry_of f 4);
      sheet_is = c.sheet_of-sheet.ensures ∙ ap (λ (o : Option ℕ). held (value_or (and_then o (λ c. Some (grid_in f c))) [])) k;
    }
