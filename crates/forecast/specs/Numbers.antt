-- What crosses to C: the refusal, or the two figures. At a refusal every other number is 0.
use Rattle.std.specs.Prelude.{replicate}
use Rattle.dayfile.specs.Outcome.{Outcome, turned_away, answer}
use Rattle.forecast.specs.declared.Foretold.{Foretold}
use Rattle.forecast.specs.declared.ForecastResult.{ForecastResult}
use Rattle.forecast.specs.Forecasting.{Figures, foretold}

abbrev pub figures_as : Outcome Figures → ForecastResult
figures_as (turned_away q) = record { refusal = q.number; offset = q.at; length = 0; placed = replicate 24 0 }
figures_as (answer x) = record { refusal = 0; offset = 0; length = x.length; placed = x.placed }

abbrev pub forecast_numbers : Foretold → ForecastResult
forecast_numbers r = figures_as (foretold r)
