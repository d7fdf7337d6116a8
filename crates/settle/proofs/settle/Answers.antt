-- `settle::settle` meets its contract. Each turn plays one exchange path; the measure of the crate `fairness` falls.
use Rattle.model.specs.Book.{cell}
use Rattle.instance.specs.Terms.{instance_in}
use Rattle.instance.proofs.Told.{told_in, shows-itself}
use Rattle.std.specs.Prelude.{Some}
use Rattle.exchange.specs.Paths.{Answers}
use Rattle.settle.proofs.Turns.{turn-playable, turn-full, turn-less}
use Rattle.settle.proofs.settle.Goals.{In-Some}
use Rattle.settle.proofs.settle.Goals as goal

-- what the exchange of a turn is
answers : (c : In-Some) → Answers (instance_in c.args.t c.args.caps.now) (cell c.loop-found.grid) (Some c.in-Some.found)
answers c = c.in-Some.ensures.answers _ _ (told_in c.args.t c.args.caps.now) (shows-itself c.args.t c.loop-found.grid)

pub play_path-requires-clause-all_playable : goal.play_path-requires-clause-all_playable
play_path-requires-clause-all_playable c =
    let l = c.loop-found in
    let turn = answers (goal.at.play_path-requires-clause-all_playable c).In-Some in
    turn-playable c.args.t c.args.caps.now c.requires.small l.grid l.invariant c.in-Some.found turn

pub loop-found-smaller : goal.loop-found-smaller
loop-found-smaller c =
    let l = c.loop-found in
    let turn = answers (goal.at.loop-found-smaller c).In-Some in
    turn-less c.args.t c.args.caps.now c.requires.small l.grid l.invariant c.in-Some.found turn _ c.play_path.ensures

pub loop-found-preserved : goal.loop-found-preserved
loop-found-preserved c =
    let l = c.loop-found in
    let turn = answers (goal.at.loop-found-preserved c).In-Some in
    turn-full c.args.t c.args.caps.now c.requires.small l.grid l.invariant c.in-Some.found turn _ c.play_path.ensures
