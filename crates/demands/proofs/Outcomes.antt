-- Demand 1: the contracts say it, and what the reader's day holds is what stands in the file. Assumes nothing.
use mathlib.Core.List.{List, []}
use mathlib.Core.Path.{◌≡◌}
use Prim.Native.Nat.{ℕ}
use Rattle.dayfile.specs.declared.Reading.{Reading}
use Rattle.dayfile.specs.Layout.{book_of, sheet_of}
use Rattle.dayfile.specs.Table.{read_lines}
use Rattle.dayfile.specs.Outcome.{Defined}
use Rattle.dayfile.specs.Memory.{day_book, day_sheet, reading, Reads}
use Rattle.dayfile.proofs.Lines.{none-first-of}
use Rattle.dayfile.proofs.Theorems.{holds-accepted}
use Rattle.demands.specs.Demands.{Demand1}
use Rattle.demands.proofs.Better.{handed-back}

read : (file : List ℕ) (r : Reading) → Reads file r →
    Defined (read_lines file) [] [] (reading r) (λ d. (day_book d ≡ book_of file) × (day_sheet d ≡ sheet_of file))
read file r h =
    record {
      refuses = h.defined.refuses;
      unchanged = h.defined.unchanged;
      gives = λ free.
          let day = h.defined.gives free in
          (day.0, (day.1.0, holds-accepted file day.0 (none-first-of (read_lines file) free) day.1.1));
    }

pub first : Demand1
first =
    record {
      reader = read;
      writer = λ d before after r h. h;
      marker = λ file before after r h. h;
      planner = λ file before after r h. h;
      listing = λ file before after r h. h;
      better = λ f g r h. (h.defined, h.whose);
      handed_back = handed-back;
      fulfil = λ file row before after r h. h;
      forecast = λ file r h. (h.defined, h.zeros);
    }
