-- `answers::CreditsBook::of` meets its contract: each part in its place.
use mathlib.Core.Path.{◌∙◌, ap₂}
use Prim.Native.Nat.{ℕ}
use Rattle.dayfile.specs.declared.Day.{Day}
use Rattle.answers.specs.Numbers.{flag}
use Rattle.answers.specs.declared.CreditsBook.{CreditsBook}
use Rattle.answers.proofs.CreditsBook.of.Goals as goal

-- with what its four flags turned out to be
abbrev told : Day → ℕ → ℕ → ℕ → ℕ → CreditsBook
told d sheet first balances weights =
    record {
      seats = d.book.seats;
      windows = d.book.windows;
      classes = d.book.classes;
      supplies = d.book.supplies;
      caps = d.caps;
      has_sheet = sheet;
      sheet = d.sheet;
      has_first = first;
      first = d.book.first;
      has_balances = balances;
      balances = d.book.balances;
      has_weights = weights;
      weights = d.book.weights;
    }

pub returns : goal.returns
returns c =
    let d = c.args.day in
    ap₂ (λ (x y : ℕ). told d x y c.flag-has_balances.result c.flag-has_weights.result) c.flag-has_sheet.ensures c.flag-has_first.ensures
    ∙ ap₂ (told d (flag d.has_sheet) (flag d.book.has_first)) c.flag-has_balances.ensures c.flag-has_weights.ensures
