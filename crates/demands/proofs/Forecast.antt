-- What the forecast tells is what a plan takes, over the contracts of both calls. Assumes nothing.
use mathlib.Core.Path.{◌≡◌, refl, sym, ap, subst, ◌∙◌}
use mathlib.Core.Bool.{false}
use mathlib.Core.List.{List}
use Rattle.std.specs.Prelude.{Option, None, Some}
use Prim.Native.Nat.{ℕ, ◌≤◌, ◌<◌}
use native.Mathlib.Decide.{dec_lt}
use native.Mathlib.Omega.{arith}
use lib.ListN.{length, take}
use Rattle.dayfile.specs.declared.Written.{Written}
use Rattle.dayfile.specs.declared.Written.TheVariants.{Refused, Whole}
use Rattle.dayfile.specs.Layout.{book_of}
use Rattle.dayfile.specs.Table.{Refusal, refuse, first_of, forecast_lines, buffer_lines, plan_lines, planned_length}
use Rattle.dayfile.specs.Table.{contents_lines, length_lines, value_lines, option_lines, read_lines, idle_lines}
use Rattle.dayfile.specs.Outcome.{turned_away, answer}
use Rattle.dayfile.specs.Memory.{written}
use Rattle.dayfile.proofs.Accepted.{fits}
use Rattle.dayfile.proofs.Answers.{answered, answer-none, refusal-first, tells-refusal}
use Rattle.dayfile.proofs.Idle.{read-free}
use Rattle.dayfile.proofs.Lines.{stop-in, on-after, none-first-of, none-holds, none-parts, room-short, room-enough, numbered, unnumbered}
use Rattle.dayfile.proofs.Sound.{sound}
use Rattle.planner.specs.Planning.{Plans}
use Rattle.planner.proofs.Theorems as planner
use Rattle.forecast.specs.declared.Foretold.{Foretold}
use Rattle.forecast.specs.Forecasting.{Figures, foretold, Forecasts}
use Rattle.forecast.proofs.Figures.{length-told, placed-told, unused-told, sheet-places}
use Rattle.demands.specs.Demands.{ToldAhead}
use Rattle.demands.proofs.Fairness.{planned-free, the-planned, planned}
use Rattle.demands.proofs.Standard as standard

-- ---- a file that is planned

module _ (file before after : List ℕ) (r : Foretold) (n : ℕ) (h : Forecasts file r) (plans : Plans file before after (Whole n)) where
  -- no line of the forecast's holds
  free : first_of (forecast_lines file) ≡ None
  unfolding plan_lines
  free =
      (none-parts (forecast_lines file) (buffer_lines (length before) (planned_length (book_of file)))
      (none-first-of (plan_lines file (length before)) (planned-free file before after n plans))).0

  -- the answer is the length that was told, and so many bytes are there
  answer_is : n ≡ r.length
  answer_is = (answer-none plans n refl).1.0 ∙ sym (length-told file r h free)

  bytes : length (take n after) ≡ n
  bytes =
      let none-hold = planned-free file before after n plans in
      ap length (the-planned file before after n plans)
      ∙ (answered None _ n (sym (planner.told-length file before after (Whole n) plans none-hold))).1

  pub told_ahead : ToldAhead (book_of file) n after r
  told_ahead =
      let here = planned file before after n plans in
      let full = here.standard.standard.settled.full in
      let few = (fits file (sound file (read-free file free))).windows_high in
      record {
        sheet = here.sheet;
        reads_back = here.reads_back;
        answer_is = answer_is;
        length_is = bytes ∙ answer_is;
        placed_are = λ j l. sheet-places (book_of file) here.sheet here.lawful full j l ∙ sym (placed-told file r h free few j l);
        unused = unused-told file r h free;
      }

-- ---- the planner's 16

-- no line of the forecast's has this number
none-16 : (file : List ℕ) → numbered 16 (forecast_lines file) ≡ false
unfolding read_lines contents_lines length_lines value_lines option_lines idle_lines
none-16 file = refl

-- what line 16 asks for
needed : (room need k : ℕ) → first_of (buffer_lines room need) ≡ Some (refuse 16 k) → k ≡ need
needed room need k e = go (dec_lt room need)
  where
    go : Dec (room < need) → k ≡ need
    go (yes l) =
        let h : Some (refuse 16 k) ≡ Some (refuse 16 need) = sym e ∙ room-short room need l in
        let same : refuse 16 k ≡ refuse 16 need = cc in ap (λ (q : Refusal). q.at) same
    go (no d) =
        let h : None ≡ Some (refuse 16 k) = sym (room-enough room need (omega arith)) ∙ e in
        absurd (let z : ◌≡◌ {A = ℕ} 0 1 = cc in omega arith)

pub asks : (file before after : List ℕ) (r : Foretold) (need : ℕ) → Forecasts file r → Plans file before after (Refused 16 need) →
    need ≡ r.length
unfolding plan_lines
asks file before after r need h plans = go (first_of (forecast_lines file)) refl
  where
    first : first_of (plan_lines file (length before)) ≡ Some (refuse 16 need)
    first = refusal-first plans (refuse 16 need) refl

    go : (o : Option Refusal) → first_of (forecast_lines file) ≡ o → need ≡ r.length
    go None e =
        needed (length before) (planned_length (book_of file)) need (sym (on-after (forecast_lines file) _ e) ∙ first)
        ∙ sym (length-told file r h e)
    go (Some q) e =
        let same : Some q ≡ Some (refuse 16 need) = sym (stop-in (forecast_lines file) _ q e) ∙ first in
        absurd (unnumbered 16 (forecast_lines file) q (none-16 file) e cc)

-- ---- the forecast's refusal, and its answer

pub same_refusal : (file before after : List ℕ) (r : Foretold) (w : Written) (q : Refusal) → Forecasts file r →
    Plans file before after w → foretold r ≡ turned_away q → written w ≡ turned_away q
unfolding plan_lines
same_refusal file before after r w q h plans e =
    (tells-refusal plans q (stop-in (forecast_lines file) _ q (refusal-first h.defined q e))).0

pub room_suffices : (file before after : List ℕ) (r : Foretold) (w : Written) (x : Figures) → Forecasts file r →
    Plans file before after w → foretold r ≡ answer x → r.length ≤ length before → w ≡ Whole r.length
room_suffices file before after r w x h plans e long =
    let free : first_of (forecast_lines file) ≡ None = (answer-none h.defined x e).0 in
    let size = length-told file r h free in
    standard.whole file (none-holds (forecast_lines file) free) before after w (subst (λ (k : ℕ). k ≤ length before) size long) plans
    ∙ ap Whole (sym size)

pub too_short : (file before after : List ℕ) (r : Foretold) (w : Written) (x : Figures) → Forecasts file r →
    Plans file before after w → foretold r ≡ answer x → length before < r.length → written w ≡ turned_away (refuse 16 r.length)
unfolding plan_lines
too_short file before after r w x h plans e less =
    let free : first_of (forecast_lines file) ≡ None = (answer-none h.defined x e).0 in
    let size = length-told file r h free in
    (tells-refusal plans (refuse 16 r.length)
    (on-after (forecast_lines file) _ free
    ∙ room-short (length before) (planned_length (book_of file)) (subst (λ (k : ℕ). length before < k) size less)
    ∙ ap (λ (k : ℕ). Some (refuse 16 k)) (sym size))).0
