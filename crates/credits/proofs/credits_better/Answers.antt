-- `credits_better` meets its contract: the choice, in numbers, with where the body lies.
use mathlib.Core.Path.{ap, ◌∙◌}
use Rattle.choice.specs.Numbers.{better_numbers}
use Rattle.credits.proofs.credits_better.Goals as goal

pub returns : goal.returns
returns c =
    let choose = c.choose-choice in
    record {
      answers = choose.result;
      meets = choose.ensures;
      says = c.of.ensures ∙ ap (better_numbers choose.result) c.body_span.ensures;
    }
