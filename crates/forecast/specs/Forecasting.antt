-- Paper 02, E8: what a plan will take, told from the day file alone.
use Rattle.std.specs.Prelude.{List, [], ◌≡◌, ℕ, min, get_or, replicate}
use Rattle.fairness.specs.Sums.{sum}
use Rattle.fairness.specs.Leximin.{table}
use Rattle.model.specs.Book.{Book, cell, seats, windows}
use Rattle.dayfile.specs.Layout.{book_of}
use Rattle.dayfile.specs.Table.{Refusal, planned_length, forecast_lines}
use Rattle.dayfile.specs.Outcome.{Outcome, turned_away, unless, Defined}
use Rattle.dayfile.specs.Memory.{sized, refused}
use Rattle.forecast.specs.declared.Foretold.{Foretold}

-- the credits that will be placed in a window, document 000's β_I: the lesser of the supply and the caps added together
abbrev pub will_place : Book → ℕ → ℕ
will_place b j = min (get_or b.supplies j 0) (sum (seats b) (λ i. cell b.caps i j))

-- the two figures: the length of the planned file, and of each window the credits that will be placed
pub record Figures : Type 0 where
  pub length : ℕ
  pub placed : List ℕ

-- those of a book; of 24 windows those that it does not have count 0
unfoldable pub figures_of : Book → Figures
figures_of b = record { length = planned_length b; placed = sized 24 (table (windows b) (will_place b)) }

-- what is in memory: the figures, and what the call answers
abbrev pub figures : Foretold → Figures
figures r = record { length = r.length; placed = r.placed }

abbrev pub foretold : Foretold → Outcome Figures
foretold r = unless (refused r.check) (figures r)

-- the contract: down the planner's lines but for 16, the figures of the file's book; at a refusal they are zeros
pub record Forecasts (file : List ℕ) (r : Foretold) : Type 0 where
  pub defined : Defined (forecast_lines file) [] [] (foretold r) (λ x. x ≡ figures_of (book_of file))
  pub zeros : (q : Refusal) → foretold r ≡ turned_away q → (r.length ≡ 0) × (r.placed ≡ replicate 24 0)
