-- What the exported calls promise: the contracts of the calls behind them, in the numbers that cross to C.
use Rattle.std.specs.Prelude.{List, ◌≡◌, ℕ}
use Rattle.dayfile.specs.Memory.{Reads, WritesDay}
use Rattle.marker.specs.Marking.{Marks}
use Rattle.planner.specs.Planning.{Plans}
use Rattle.listing.specs.Calls.{Lists}
use Rattle.choice.specs.declared.BetterResult.{BetterResult}
use Rattle.better.specs.Choice.{Chooses}
use Rattle.choice.specs.Numbers.{body_of, better_numbers}
use Rattle.reply.specs.declared.FulfilResult.{FulfilResult}
use Rattle.reply.specs.Numbers.{fulfil_numbers}
use Rattle.fulfil.specs.Fulfilling.{Fulfils}
use Rattle.forecast.specs.declared.ForecastResult.{ForecastResult}
use Rattle.forecast.specs.Forecasting.{Forecasts}
use Rattle.forecast.specs.Numbers.{forecast_numbers}
use Rattle.answers.specs.declared.CreditsBook.{CreditsBook}
use Rattle.answers.specs.declared.ReadResult.{ReadResult}
use Rattle.answers.specs.declared.MarkResult.{MarkResult}
use Rattle.answers.specs.declared.WriteResult.{WriteResult}
use Rattle.answers.specs.Numbers.{day_from, read_numbers, write_numbers, mark_numbers}

-- the contract of an exported call: the result is, in numbers, an answer that meets the contract of the call behind it
pub record InNumbers {A R : Type 0} (numbers : A → R) (Contract : A → Type 0) (r : R) : Type 0 where
  pub answers : A
  pub meets : Contract answers
  pub says : r ≡ numbers answers

-- credits_read
abbrev pub ReadsAs : (file : List ℕ) → ReadResult → Type 0
ReadsAs file r = InNumbers read_numbers (Reads file) r

-- credits_write
abbrev pub WritesAs : CreditsBook → (before after : List ℕ) → WriteResult → Type 0
WritesAs c before after r = InNumbers write_numbers (WritesDay (day_from c) before after) r

-- credits_mark
abbrev pub MarksAs : (file before after : List ℕ) → MarkResult → Type 0
MarksAs file before after r = InNumbers mark_numbers (Marks file before after) r

-- credits_plan
abbrev pub PlansAs : (file before after : List ℕ) → WriteResult → Type 0
PlansAs file before after r = InNumbers write_numbers (Plans file before after) r

-- credits_listing
abbrev pub ListsAs : (file before after : List ℕ) → WriteResult → Type 0
ListsAs file before after r = InNumbers write_numbers (Lists file before after) r

-- credits_better
abbrev pub BettersAs : (f g : List ℕ) → BetterResult → Type 0
BettersAs f g r = InNumbers (λ c. better_numbers c (body_of c f g)) (Chooses f g) r

-- credits_fulfil
abbrev pub FulfilsAs : (file row before after : List ℕ) → FulfilResult → Type 0
FulfilsAs file row before after r = InNumbers fulfil_numbers (Fulfils file row before after) r

-- credits_forecast
abbrev pub ForecastsAs : (file : List ℕ) → ForecastResult → Type 0
ForecastsAs file r = InNumbers forecast_numbers (Forecasts file) r
