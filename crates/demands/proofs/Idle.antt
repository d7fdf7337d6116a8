-- Which books are planned: those without an idle seat. The others are refused by 22, by planner and forecast alone. Assumes nothing.
use mathlib.Core.Path.{◌≡◌, refl, sym, ap, subst, ◌∙◌}
use mathlib.Core.List.{List}
use mathlib.Core.Logic.{◌⊎◌, inl, inr}
use Rattle.std.specs.Prelude.{Option, None, Some}
use Prim.Native.Nat.{ℕ, ◌+◌, ◌*◌, ◌≤◌, ◌<◌}
use lib.ListN.{length, get_or}
use Rattle.model.specs.Book.{Book, Grid, NoneIdle, seats, is_idle}
use Rattle.model.proofs.Tests.{true-not-false}
use Rattle.model.proofs.Books.{idle-test}
use Rattle.model.proofs.Lowest.{Fails, Lowest, lowest-cases}
use Rattle.dayfile.specs.declared.Day.{Day}
use Rattle.dayfile.specs.declared.Reading.{Reading}
use Rattle.dayfile.specs.declared.Written.{Written}
use Rattle.dayfile.specs.declared.Written.TheVariants.{Whole}
use Rattle.dayfile.specs.Layout.{field, start, book_of, sheet_of}
use Rattle.dayfile.specs.Table.{Refusal, refuse, first_of, read_lines, idle_lines, forecast_lines, plan_lines, planned_length}
use Rattle.dayfile.specs.Table.{write_lines, mark_lines, better_lines, fulfil_lines, buffer_lines}
use Rattle.dayfile.specs.Outcome.{turned_away, answer, read_file}
use Rattle.dayfile.specs.Memory.{file_in, reading, written, Reads, WritesDay}
use Rattle.dayfile.proofs.Accepted.{seats_are}
use Rattle.dayfile.proofs.Answers.{away, answered, refusal-first, tells-refusal, tells-answer}
use Rattle.dayfile.proofs.Fields.{fields-at}
use Rattle.dayfile.proofs.Idle.{forecast-free, forecast-idle, read-not-22, write-not-22, mark-not-22, better-not-22, fulfil-not-22}
use Rattle.dayfile.proofs.Lines.{stop-in, none-holds, unnumbered}
use Rattle.answers.specs.declared.Marking.{Marking}
use Rattle.answers.specs.Answers.{told}
use Rattle.marker.specs.Marking.{Marks}
use Rattle.planner.specs.Planning.{Plans}
use Rattle.listing.specs.Listing.{listing_max}
use Rattle.listing.specs.Calls.{Lists}
use Rattle.choice.specs.declared.Choice.{Choice}
use Rattle.better.specs.Choice.{side_of, Chooses}
use Rattle.reply.specs.declared.Reply.{Reply}
use Rattle.fulfil.specs.Fulfilling.{replied, Fulfils}
use Rattle.forecast.specs.declared.Foretold.{Foretold}
use Rattle.forecast.specs.Forecasting.{figures_of, foretold, Forecasts}
use Rattle.demands.specs.Demands.{LowestIdle, WithIdle}
use Rattle.demands.proofs.Standard as standard

-- a book has a lowest idle seat, or none is idle
pub either : (b : Book) → ((i : ℕ) × LowestIdle b i) ⊎ NoneIdle b
either b = go (lowest-cases (seats b) (is_idle b))
  where
    go : Fails (seats b) (is_idle b) ⊎ ((i : ℕ) × Lowest (seats b) (is_idle b) i) → ((i : ℕ) × LowestIdle b i) ⊎ NoneIdle b
    go (inl none_is) = inr (λ i li h. true-not-false _ ((idle-test b i).1 h) (none_is i li))
    go (inr h) =
        inl (
          h.0,
          record {
            of_book = h.1.below;
            idle = (idle-test b h.0).0 h.1.passes;
            lowest = λ k lk idle. true-not-false _ ((idle-test b k).1 idle) (h.1.least k lk);
          },
        )

-- ---- an accepted file and its book

module _ (file : List ℕ) (b : Book) (s : Option Grid) (accepted : read_file file ≡ answer (b, s)) where
  says : (first_of (read_lines file) ≡ None) × (◌≡◌ {A = Book × Option Grid} (book_of file, sheet_of file) (b, s))
  unfolding read_file
  says = answered (first_of (read_lines file)) (book_of file, sheet_of file) (b, s) accepted

  the-book : book_of file ≡ b
  the-book = ap (λ (x : Book × Option Grid). x.0) says.1

  -- no line of the forecast's holds where no seat is idle
  module _ (none_idle : NoneIdle b) where
    free : first_of (forecast_lines file) ≡ None
    free = forecast-free file says.0 (subst NoneIdle (sym the-book) none_idle)

    pub plans : (before after : List ℕ) (r : Written) → planned_length b ≤ length before → Plans file before after r →
        r ≡ Whole (planned_length b)
    plans before after r long planned =
        standard.whole file (none-holds (forecast_lines file) free) before after r (rw (ap planned_length the-book) long) planned
        ∙ ap (λ (x : Book). Whole (planned_length x)) the-book

    pub forecasts : (r : Foretold) → Forecasts file r → foretold r ≡ answer (figures_of b)
    forecasts r h =
        let x = tells-answer h.defined free in x.1.0 ∙ ap answer (x.1.1 ∙ ap figures_of the-book)

-- ---- 22, at the class of the lowest idle seat

module _ (file : List ℕ) (b : Book) (i : ℕ) (w : WithIdle file b i) where
  same : book_of file ≡ b
  same = the-book file b w.sheet w.accepted

  first : first_of (forecast_lines file) ≡ Some (refuse 22 (start file 0 + 2 * i))
  first =
      let h : LowestIdle (book_of file) i = subst (λ (x : Book). LowestIdle x i) (sym same) w.seat in
      forecast-idle file (says file b w.sheet w.accepted).0 i h.of_book h.idle h.lowest

  pub not_planned : (before after : List ℕ) (r : Written) → Plans file before after r →
      written r ≡ turned_away (refuse 22 (start file 0 + 2 * i))
  unfolding plan_lines
  not_planned before after r plans = (tells-refusal plans _ (stop-in (forecast_lines file) _ _ first)).0

  pub not_forecast : (r : Foretold) → Forecasts file r → foretold r ≡ turned_away (refuse 22 (start file 0 + 2 * i))
  not_forecast r h = (tells-refusal h.defined _ first).0

  pub class_there : get_or b.classes i 0 ≡ field file (start file 0 + 2 * i)
  unfolding book_of
  class_there =
      let below : i < seats (book_of file) = subst (λ (x : Book). i < seats x) (sym same) w.seat.of_book in
      ap (λ (x : Book). get_or x.classes i 0) (sym same)
      ∙ fields-at file (start file 0) _ i (subst (λ (n : ℕ). i < n) (seats_are file) below)

-- ---- behind the reader's lines

pub reader_first : (file : List ℕ) (q : Refusal) → read_file file ≡ turned_away q →
    ((before after : List ℕ) (r : Written) → Plans file before after r → written r ≡ turned_away q)
    × ((r : Foretold) → Forecasts file r → foretold r ≡ turned_away q)
unfolding read_file plan_lines
reader_first file q e =
    let first : first_of (read_lines file) ≡ Some q = away (first_of (read_lines file)) _ q e in
    let here = stop-in (read_lines file) (idle_lines file) q first in (
      λ before after r plans. (tells-refusal plans _ (stop-in (forecast_lines file) _ _ here)).0,
      λ r h. (tells-refusal h.defined _ here).0,
    )

-- ---- no other call says 22

pub read : (file : List ℕ) (r : Reading) (p : ℕ) → Reads file r → reading r ≡ turned_away (refuse 22 p) → ⊥
read file r p h e = unnumbered 22 (read_lines file) _ (read-not-22 file) (refusal-first h.defined _ e) refl

pub write : (d : Day) (before after : List ℕ) (r : Written) (p : ℕ) → WritesDay d before after r →
    written r ≡ turned_away (refuse 22 p) → ⊥
write d before after r p h e =
    unnumbered 22 (write_lines (file_in d) (length before)) _ (write-not-22 (file_in d) (length before)) (refusal-first h _ e) refl

pub mark : (file before after : List ℕ) (r : Marking) (p : ℕ) → Marks file before after r → told r ≡ turned_away (refuse 22 p) → ⊥
mark file before after r p h e =
    unnumbered 22 (mark_lines file (length before)) _ (mark-not-22 file (length before)) (refusal-first h _ e) refl

pub list : (file before after : List ℕ) (r : Written) (p : ℕ) → Lists file before after r → written r ≡ turned_away (refuse 22 p) → ⊥
unfolding buffer_lines
list file before after r p h e = unnumbered 22 (buffer_lines (length before) listing_max) _ refl (refusal-first h _ e) refl

pub better : (f g : List ℕ) (r : Choice) (p : ℕ) → Chooses f g r → side_of r ≡ turned_away (refuse 22 p) → ⊥
better f g r p h e = unnumbered 22 (better_lines f g) _ (better-not-22 f g) (refusal-first h.defined _ e) refl

pub fulfil : (file row before after : List ℕ) (r : Reply) (p : ℕ) → Fulfils file row before after r →
    replied r ≡ turned_away (refuse 22 p) → ⊥
fulfil file row before after r p h e =
    unnumbered 22 (fulfil_lines file row (length before)) _ (fulfil-not-22 file row (length before)) (refusal-first h _ e) refl
