-- The theorems of the day file, demand 2 of paper 01 among them. Each says in words what is proved.
-- Assumes nothing.
use mathlib.Core.List.{List}
use mathlib.Core.Logic.{◌↔◌}
use Rattle.std.specs.Prelude.{Option, None, Some}
use mathlib.Core.Bool.{true}
use mathlib.Core.Path.{◌≡◌, refl, sym, ◌∙◌, ap, ap₂, subst}
use Prim.Native.Nat.{ℕ, ◌-◌, ◌≤◌, ◌<◌}
use native.Mathlib.Omega.{arith}
use lib.ListN.{length, get_or}
use Rattle.fairness.specs.Classes.{class_weights}
use Rattle.model.specs.Lowest.{lowest, value_or}
use Rattle.fairness.proofs.Weights.{get_d-inside}
use Rattle.model.specs.Book.{Book, Grid, seats, weights_of, instance_of}
use Rattle.model.proofs.Weights.{weight-as}
use Rattle.sheet.specs.Sheets.{grid_of}
use Rattle.dayfile.specs.Bounds.{Fit, WeightsFit, SheetFit, TwoByte, longest_file}
use Rattle.dayfile.specs.Layout.{Bytes, book_of, sheet_of}
use Rattle.dayfile.specs.File.{file_of}
use Rattle.dayfile.specs.Table.{Refusal, first_of, number_right, read_lines, write_lines}
use Rattle.dayfile.specs.Outcome.{turned_away, answer, unless, read_file, NoneHolds, FirstHolds}
use Rattle.dayfile.specs.Memory.{Holds, file_with, file_in, day_book, day_sheet}
use Rattle.dayfile.specs.declared.Day.{Day}
use Rattle.dayfile.proofs.Answers.{away, answered}
use Rattle.dayfile.proofs.Lines.{none-holds, none-first-of, first_holds, holds-first}
use Rattle.dayfile.proofs.Sound.{all_right, sound}
use Rattle.dayfile.proofs.WrittenReads.{list-weights, written-free, written-book, written-sheet}
use Rattle.dayfile.proofs.ReadWrites.{written-again}
use Rattle.dayfile.proofs.Accepted.{fits, sheet-fits, sheet-two-byte, taken-fits}
use Rattle.dayfile.proofs.Lengths.{file-short, file-bytes}
use Rattle.dayfile.proofs.Lengths.{long_book, long_sheet, long-fits, long-sheet-fits, long-two-byte, long-length}
use Rattle.dayfile.proofs.Held.{held-book, held-sheet, book-shaped, sheet-shaped}

-- a file is refused exactly when a line of the table holds, with the number and the offset of the first such line
pub refused-exactly : (f : List ℕ) (q : Refusal) → read_file f ≡ turned_away q ↔ FirstHolds (read_lines f) q
unfolding read_file
refused-exactly f q = (
  (λ e. first_holds (read_lines f) q (away (first_of (read_lines f)) (book_of f, sheet_of f) q e)),
  (λ h. ap (λ (o : Option Refusal). unless o (book_of f, sheet_of f)) (holds-first (read_lines f) q h)),
)

-- a file is accepted exactly when no line holds, and then it says what its bodies say
pub accepted-exactly : (f : List ℕ) → read_file f ≡ answer (book_of f, sheet_of f) ↔ NoneHolds (read_lines f)
unfolding read_file
accepted-exactly f = (
  (λ e. none-holds (read_lines f) (answered (first_of (read_lines f)) (book_of f, sheet_of f) (book_of f, sheet_of f) e).0),
  (λ h. ap (λ (o : Option Refusal). unless o (book_of f, sheet_of f)) (none-first-of (read_lines f) h)),
)

-- the book of an accepted file has 1 to 32 seats, 1 to 24 windows, classes 1 to 8, supplies and caps up to 4,095 and a cap for each seat
-- and window; a first seat, if one is named, is one of its seats; balances, if there are any, are one for each seat, up to 50,000; weights,
-- if there are any, are eight, 1 to 1,000, each greater than the one before; its sheet, if there is one, has a cell for each seat and
-- window, and each is a two-byte number
pub accepted-fits : (f : List ℕ) (b : Book) (s : Option Grid) → read_file f ≡ answer (b, s)
    → Fit b × SheetFit b s × (Bytes f → TwoByte b s)
unfolding read_file
accepted-fits f b s e =
    let g = answered (first_of (read_lines f)) (book_of f, sheet_of f) (b, s) e in
    subst (λ (p : Book × Option Grid). Fit p.0 × SheetFit p.0 p.1 × (Bytes f → TwoByte p.0 p.1)) g.1
    (fits f (sound f g.0), sheet-fits f, sheet-two-byte f)

-- paper 01's table is one that a kind 7 body may hold: what is shown over every such table is shown over it
pub built-in-fits : WeightsFit (Some class_weights)
unfolding lowest
built-in-fits =
    list-weights (Some class_weights) (refl, all_right (λ i. i) (number_right 1 1000 true (λ k. get_or class_weights k 0)) 8 refl)

-- so in every book that fits the weights in force, its own or paper 01's, are eight, 1 to 1,000, each greater than the one before
pub in-force-fits : (b : Book) → Fit b → WeightsFit (Some (weights_of b))
in-force-fits b fit = go b.weights fit.weights_fit
  where
    go : (o : Option (List ℕ)) → WeightsFit o → WeightsFit (Some (value_or o class_weights))
    go None h = built-in-fits
    go (Some ws) h = h

-- and a seat has the weight in force of its class, as it stands in the table
pub seat-weight : (b : Book) → Fit b → (i : ℕ) → i < seats b → (instance_of b).weight i ≡ get_or (weights_of b) (get_or b.classes i 0 - 1) 0
unfolding instance_of
seat-weight b fit i l =
    let class : ℕ = get_or b.classes i 0 in
    let f = in-force-fits b fit in
    let k : class - 1 < 8 = omega (arith, fit.class_low i l, fit.class_high i l) in
    let inside = get_d-inside (weights_of b) 1 0 (class - 1) (omega (arith, f.0)) in
    weight-as (weights_of b) class (omega (arith, inside, (f.1 (class - 1) k).0)) ∙ inside

-- a book that fits, with or without a sheet, written and read, is the same, and so is the sheet
pub written_reads_back : (b : Book) (s : Option Grid) → Fit b → SheetFit b s → read_file (file_of b s) ≡ answer (b, s)
unfolding read_file
written_reads_back b s fit sheet =
    ap (λ (o : Option Refusal). unless o (book_of (file_of b s), sheet_of (file_of b s))) (written-free b s fit sheet)
    ∙ ap₂ (λ (x : Book) (y : Option Grid). answer (x, y)) (written-book b s fit sheet) (written-sheet b s fit sheet)

-- what is written is made of bytes
pub written-bytes : (b : Book) (s : Option Grid) → Fit b → SheetFit b s → TwoByte b s → Bytes (file_of b s)
written-bytes = file-bytes

-- an accepted file, read and written again, has the same bytes
pub read-writes-back : (f : List ℕ) (b : Book) (s : Option Grid) → Bytes f → read_file f ≡ answer (b, s) → file_of b s ≡ f
unfolding read_file
read-writes-back f b s by e =
    let g = answered (first_of (read_lines f)) (book_of f, sheet_of f) (b, s) e in
    ap (λ (p : Book × Option Grid). file_of p.0 p.1) (sym g.1) ∙ written-again f (sound f g.0) by

-- the longest file: no accepted file has more, and one has as many
pub longest : (f : List ℕ) (b : Book) (s : Option Grid) → Bytes f → read_file f ≡ answer (b, s) → length f ≤ longest_file
longest f b s by e =
    let back = ap length (read-writes-back f b s by e) in
    let fit = accepted-fits f b s e in let short = file-short b s fit.0 fit.1 in omega arith

pub longest-there : (f : List ℕ) × Bytes f × (read_file f ≡ answer (long_book, Some long_sheet)) × (length f ≡ longest_file)
longest-there = (
  file_of long_book (Some long_sheet),
  file-bytes long_book (Some long_sheet) long-fits long-sheet-fits long-two-byte,
  written_reads_back long_book (Some long_sheet) long-fits long-sheet-fits,
  long-length,
)

-- in memory: a day that the writer's lines take, written and read, is the same in all used entries
pub memory-reads-back : (d : Day) (room : ℕ) → first_of (write_lines (file_in d) room) ≡ None
    → read_file (file_in d) ≡ answer (day_book d, day_sheet d)
unfolding file_with
memory-reads-back d room e =
    written_reads_back (day_book d) (day_sheet d)
    (taken-fits (day_book d) (day_sheet d) (book-shaped d.book (grid_of d.caps)) room e)
    (sheet-shaped d.book (grid_of d.caps) d.has_sheet (grid_of d.sheet))

-- a day that holds what an accepted file says: its book is the file's, and so is its sheet
pub holds-accepted : (f : List ℕ) (d : Day) → first_of (read_lines f) ≡ None → Holds (book_of f) (sheet_of f) d
    → (day_book d ≡ book_of f) × (day_sheet d ≡ sheet_of f)
holds-accepted f d free h =
    let fit = fits f (sound f free) in (
      held-book (book_of f) (sheet_of f) d fit h,
      held-sheet (book_of f) (sheet_of f) d fit h (sheet-fits f),
    )
