-- `forecast::ForecastResult::of` meets its contract: the numbers of each case.
use mathlib.Core.Path.{ap, sym}
use Rattle.dayfile.specs.declared.Check.{Check}
use Rattle.dayfile.specs.Memory.{refused}
use Rattle.dayfile.specs.Outcome.{unless}
use Rattle.forecast.specs.Forecasting.{figures}
use Rattle.forecast.specs.Numbers.{figures_as}
use Rattle.forecast.proofs.ForecastResult.of.Goals as goal

pub returns-in-Refused : goal.returns-in-Refused
returns-in-Refused c =
    let x = figures c.args.forecast in
    ap (λ (k : Check). figures_as (unless (refused k) x)) (sym c.in-Refused.is)

pub returns-in-Sound : goal.returns-in-Sound
returns-in-Sound c =
    let x = figures c.args.forecast in
    ap (λ (k : Check). figures_as (unless (refused k) x)) (sym c.in-Sound.is)
