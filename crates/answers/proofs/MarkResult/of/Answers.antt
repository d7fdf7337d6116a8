-- `answers::MarkResult::of` meets its contract: the numbers of the answer.
use mathlib.Core.Path.{ap}
use borrow.Author.Rules.{rules}
use Rattle.answers.specs.Answers.{told}
use Rattle.answers.specs.Numbers.{mark_as}
use Rattle.answers.proofs.Laws.{small-numbers}
use Rattle.answers.proofs.MarkResult.of.Goals as goal

pub overflow_cast-result-3 : goal.overflow_cast-result-3
overflow_cast-result-3 c =
    let s = small-numbers (told c.args.m) _ c.requires c.numbers-n.ensures in search (rules, s)

pub overflow_cast-result-4 : goal.overflow_cast-result-4
overflow_cast-result-4 c =
    let s = small-numbers (told c.args.m) _ c.requires c.numbers-n.ensures in search (rules, s)

pub overflow_cast-result-5 : goal.overflow_cast-result-5
overflow_cast-result-5 c =
    let s = small-numbers (told c.args.m) _ c.requires c.numbers-n.ensures in search (rules, s)

pub returns : goal.returns
returns c = ap mark_as c.numbers-n.ensures
