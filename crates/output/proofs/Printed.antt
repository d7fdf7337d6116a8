-- From what the listing and the planner say to what is printed: it fits the buffer, and the listing is never refused. Assumes nothing.
use mathlib.Core.Path.{◌≡◌, refl, ap}
use mathlib.Core.List.{List}
use Prim.Native.Nat.{ℕ, ◌≤◌}
use native.Mathlib.Omega.{arith}
use lib.ListN.{length, drop, length-append}
use Rattle.dayfile.specs.declared.Written.{Written}
use Rattle.dayfile.specs.declared.Written.TheVariants.{Refused, Whole}
use Rattle.dayfile.specs.Table.{refuse, plan_lines}
use Rattle.dayfile.specs.Outcome.{answer}
use Rattle.dayfile.specs.Memory.{front}
use Rattle.dayfile.proofs.Lines.{none-holds, room-enough}
use Rattle.dayfile.proofs.Answers.{answer-none, refusal-first}
use Rattle.lines.specs.Lines.{refusal_line, Printed}
use Rattle.listing.specs.Listing.{listing_max}
use Rattle.listing.specs.Calls.{Lists}
use Rattle.planner.specs.Planning.{Plans}
use Rattle.planner.proofs.Theorems as planner
use Rattle.output.specs.Output.{PrintsPlan}

-- a text at a buffer's front is no longer than the buffer afterwards
front_fits : (text before after : List ℕ) → after ≡ front text before → length text ≤ length after
unfolding front
front_fits text before after e = omega (arith, ap length e, length-append text (drop (length text) before))

pub printed-fits : (before text after : List ℕ) (n : ℕ) → Printed before text after n → n ≤ length after
unfolding front
printed-fits before text after n printed = omega (arith, printed.size, front_fits text before after printed.buffer)

-- ---- mark

pub lists-whole : (file before after : List ℕ) (r : Written) (n : ℕ) → Lists file before after r → r ≡ Whole n →
    Lists file before after (Whole n) × (n ≤ length after)
lists-whole file before after r n lists e =
    let whole : Lists file before after (Whole n) = rw e at lists in
    (whole, printed-fits _ _ _ _ (answer-none whole n refl).1.printed)

pub lists-refused : (file before after : List ℕ) (r : Written) (n p : ℕ) → Lists file before after r → r ≡ Refused n p →
    listing_max ≤ length before → ⊥
lists-refused file before after r n p lists e long =
    let refused : Lists file before after (Refused n p) = rw e at lists in
    let first = refusal-first refused (refuse n p) refl in
    let fits = room-enough (length before) listing_max long in
    let z : ◌≡◌ {A = ℕ} 0 1 = cc in omega arith

-- ---- plan

pub planned-fits : (file before after : List ℕ) (n : ℕ) → Plans file before after (Whole n) → n ≤ length after
planned-fits file before after n plans =
    let held = none-holds (plan_lines file (length before)) (answer-none plans n refl).0 in
    let fits = front_fits _ before after (planner.planned file before after (Whole n) plans held).bytes in
    omega (arith, fits, same n _ (planner.told-length file before after (Whole n) plans held))
  where
    same : (k m : ℕ) → answer k ≡ answer m → k ≡ m
    same k m e = cc

pub prints-planned : (file before after : List ℕ) (r : Written) (n : ℕ) → Plans file before after r → r ≡ Whole n →
    PrintsPlan file before after n
prints-planned file before after r n plans e =
    record {
      planner = Whole n;
      planned = after;
      plans = rw e at plans;
      prints = (refl, refl);
    }

pub prints-refusal : (file before planned after : List ℕ) (r : Written) (number at n : ℕ) →
    Plans file before planned r → r ≡ Refused number at → Printed planned (refusal_line number at) after n →
    PrintsPlan file before after n
unfolding front
prints-refusal file before planned after r number at n plans e printed =
    record {
      planner = Refused number at;
      planned = planned;
      plans = rw e at plans;
      prints = (printed.size, printed.buffer);
    }
