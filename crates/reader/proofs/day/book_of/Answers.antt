use mathlib.Core.List.{[]}
use Rattle.std.specs.Prelude.{Option, Some}
use mathlib.Core.Path.{refl, ◌∙◌, ap, ap₂}
use Prim.Native.Nat.{ℕ}
use Rattle.model.specs.Lowest.{and_then, value_or, is_some}
use Rattle.dayfile.specs.Layout.{field, start, entry_of, fields_at, first_in, balances_in, weights_in, book_of}
use Rattle.dayfile.specs.Memory.{sized}
use Rattle.dayfile.proofs.Answers.{there-as}
use Rattle.reader.proofs.day.book_of.Goals as goal

pub returns : goal.returns
unfolding book_of first_in balances_in weights_in
returns c =
    let i = c.entry_of-table.ensures.0 in
    let j = c.entry_of-list.ensures.0 in
    let k = c.entry_of-entry.ensures.0 in
    let n = c.seats-seats.ensures.0 in
    let f = c.args.file.now in record {
      seats = n;
      windows = c.windows-windows.ensures.0;
      classes = c.array32-classes.ensures ∙ ap₂ (λ (c i : ℕ). sized 32 (fields_at f c i)) c.start.ensures.0 n;
      supplies = c.array24-supplies.ensures
          ∙ ap₂ (λ (c i : ℕ). sized 24 (fields_at f c i)) c.start-2.ensures.0 c.windows-windows.ensures.0;
      has_first = c.is_there-has_first.ensures ∙ ap is_some k ∙ there-as (λ e. field f (start f e)) (entry_of f 5);
      first = c.field_of-first.ensures ∙ ap (λ (o : Option ℕ). value_or (and_then o (λ e. Some (field f (start f e)))) 0) k;
      has_balances = c.is_there-has_balances.ensures ∙ ap is_some j ∙ there-as (λ e. fields_at f (start f e) _) (entry_of f 6);
      balances = c.list_of.ensures 32 refl
          ∙ ap₂ (λ (o : Option ℕ) (i : ℕ). sized 32 (value_or (and_then o (λ e. Some (fields_at f (start f e) i))) [])) j n;
      has_weights = c.is_there-has_weights.ensures ∙ ap is_some i ∙ there-as (λ e. fields_at f (start f e) _) (entry_of f 7);
      weights = c.list_of-2.ensures 8 refl
          ∙ ap (λ (o : Option ℕ). sized 8 (value_or (and_then o (λ e. Some (fields_at f (start f e) 8))) [])) i;
    }
