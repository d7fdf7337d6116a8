-- `listing::put_text` meets its contract: the line of a refusal, or the listing of a mark with its moves.
use mathlib.Core.Path.{refl}
use borrow.Author.Rules.{rules}
use Rattle.answers.proofs.Telling.{refusal-told, result-told}
use Rattle.listing.proofs.Listed.{refused-text, fits-here, few, day-listed}
use Rattle.listing.proofs.put_text.Goals as goal

pub returns-then-result-eq0 : goal.returns-then-result-eq0
returns-then-result-eq0 c =
    let said = refusal-told c.mark_reading-marking.result _ c.numbers-result.ensures c.if-result-eq0.true in
    refused-text _ _ _ c.mark_reading-marking.result refl c.mark_reading-marking.ensures _ _ said _ _ _ c.put_refusal.ensures

pub put_day-requires : goal.put_day-requires
put_day-requires c =
    let said = result-told c.mark_reading-marking.result _ c.numbers-result.ensures c.if-result-eq0.false in
    let little = few _ _ _ c.mark_reading-marking.result refl c.mark_reading-marking.ensures _ said in
    let fit = fits-here _ _ _ c.mark_reading-marking.result refl c.mark_reading-marking.ensures _ said _ c.read-reading.ensures in record {
      fit = (fit, search rules);
      moves_bound = search (rules, little);
    }

pub returns : goal.returns
returns c =
    let told = result-told c.mark_reading-marking.result _ c.numbers-result.ensures c.if-result-eq0.false in
    day-listed _ _ _ c.mark_reading-marking.result refl c.mark_reading-marking.ensures _ told _ c.read-reading.ensures
    _ _ _ c.put_day.ensures

pub mark_reading-marking-requires : goal.mark_reading-marking-requires
mark_reading-marking-requires c = c.read-reading.ensures
