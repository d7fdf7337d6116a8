-- The three demands hold, and so does what is said of the better of two, of the standard sheet, of wanted totals, of the forecast and of
-- idle seats. The statements are in specs/Demands.antt; nothing is assumed.
use Rattle.model.specs.Book.{instance_of}
use Rattle.model.proofs.Theorems.{highest-list-exists, highest-lists-equal, standard-exists, standard-one}
use Rattle.wants.specs.Wanted.{want}
use Rattle.wants.proofs.Theorems as wants
use Rattle.forecast.proofs.Figures.{sheet-places}
use Rattle.demands.specs.Demands.{Demand1, Demand2, Demand3, BetterOfTwo, OneStandardSheet, SheetOrGroup, ForecastOfPlan, IdleSeats}
use Rattle.demands.proofs.Outcomes.{first}
use Rattle.demands.proofs.Documents.{lawful-frugal, wasteful-not-non-wasteful}
use Rattle.demands.proofs.Files.{reads_back, same_bytes}
use Rattle.demands.proofs.Better.{inside, same_sheet, not_lower, passes}
use Rattle.demands.proofs.Fairness.{passes_exactly, passing_highest, fails, planned, planned_passes}
use Rattle.demands.proofs.Standard as standard
use Rattle.demands.proofs.Wanted.{is_document_cap, told_apart, kept, sheet-read}
use Rattle.demands.proofs.Idle as idle
use Rattle.demands.proofs.Forecast.{told_ahead, asks, same_refusal, room_suffices, too_short}

-- each call gives a defined outcome or a numbered refusal, and a refusal changes no byte
pub demand-1 : Demand1
demand-1 = first

-- lawful and wasteful are document 000's; files written read back the same, and an accepted file written again has the same bytes
pub demand-2 : Demand2
demand-2 =
    record {
      lawful = lawful-frugal;
      wasteful = wasteful-not-non-wasteful;
      written_reads_back = reads_back;
      same_bytes = same_bytes;
    }

-- the marker passes exactly the fairest sheets, the planner's always pass, and every book without an idle seat is planned; the chain of a
-- failing sheet improves it
pub demand-3 : Demand3
demand-3 =
    record {
      highest_exists = highest-list-exists;
      highest_one = highest-lists-equal;
      passes_exactly = passes_exactly;
      passing_highest = passing_highest;
      fails = fails;
      planned = planned;
      planned_passes = planned_passes;
      plans = idle.plans;
    }

-- of two hand-ins the one that is handed back has the higher list, and passes where either does
pub better-of-two : BetterOfTwo
better-of-two = record { inside = inside; same_sheet = same_sheet; not_lower = not_lower; passes = passes }

-- a book has one standard sheet, and what the planner writes is the same, whatever the buffer
pub one-standard-sheet : OneStandardSheet
one-standard-sheet = record { there = standard-exists; no_other = standard-one; same_plan = standard.same_plan }

-- of any book and row of wanted totals there is a sheet or a group, never both; and what a reply of a sheet leaves reads back as one
pub sheet-or-group : SheetOrGroup
sheet-or-group =
    record {
      one_is = λ b row. wants.sheet-or-group b (want row);
      not_both = λ b row. wants.never_both b (want row);
      is_document_cap = is_document_cap;
      not_empty = λ b row. wants.not_empty (instance_of b) (want row);
      told_apart = told_apart;
      kept = kept;
      reads_back = sheet-read;
    }

-- what the forecast tells is what a plan then takes, in bytes and in credits
pub forecast-of-plan : ForecastOfPlan
forecast-of-plan =
    record {
      told_ahead = told_ahead;
      asks = asks;
      same_refusal = same_refusal;
      room_suffices = room_suffices;
      too_short = too_short;
      any_sheet = sheet-places;
    }

-- planner and forecast say 22 of just the books with an idle seat, at the class of the lowest; no other call does
pub idle-seats : IdleSeats
idle-seats =
    record {
      either = idle.either;
      not_planned = idle.not_planned;
      not_forecast = idle.not_forecast;
      class_there = idle.class_there;
      reader_first = idle.reader_first;
      forecasts = idle.forecasts;
      read = idle.read;
      write = idle.write;
      mark = idle.mark;
      list = idle.list;
      better = idle.better;
      fulfil = idle.fulfil;
    }
