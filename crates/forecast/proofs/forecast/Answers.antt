-- `forecast::forecast` meets its contract: what is read and added up.
use mathlib.Core.Path.{◌≡◌, ◌∙◌}
use Rattle.std.specs.Prelude.{None}
use Rattle.dayfile.specs.Bounds.{Fit}
use Rattle.dayfile.specs.Layout.{book_of}
use Rattle.dayfile.specs.Table.{first_of, read_lines, idle_lines}
use Rattle.dayfile.specs.Memory.{book_in}
use Rattle.dayfile.proofs.Answers.{refuses, passes}
use Rattle.dayfile.proofs.Lines.{stop-in, on-after}
use Rattle.dayfile.proofs.Readings.{read-refused, read-sound, read-book, read-book-fits}
use Rattle.dayfile.proofs.Used.{range-in}
use Rattle.forecast.proofs.Figures.{length-in, forecast-refused, forecast-told}
use Rattle.forecast.proofs.forecast.Goals.{In_default, After-to_grid-caps}
use Rattle.forecast.proofs.forecast.Goals as goal

pub returns-in-Refused : goal.returns-in-Refused
returns-in-Refused c =
    let refused = read-refused _ _ c.read-reading.ensures c.in-Refused.is in
    let away = c.turned_away.ensures in
    forecast-refused _ _ _ (stop-in (read_lines _) (idle_lines _) _ refused) away.0 away.1

-- ---- no line of the reader's holds

accepted : (c : In_default) → first_of (read_lines c.args.file.now) ≡ None
accepted c = read-sound _ _ c.read-reading.ensures c.in_default.is

-- the file's book is in memory, its caps as an array of arrays
the-book : (c : After-to_grid-caps) → book_in c.read-reading.result.day.book c.to_grid-caps.result ≡ book_of c.args.file.now
the-book c =
    let reads = c.read-reading.ensures in
    read-book _ _ reads (read-sound _ _ reads c.in_default.is) _ c.to_grid-caps.ensures

the-fit : (c : After-to_grid-caps) → Fit (book_in c.read-reading.result.day.book c.to_grid-caps.result)
the-fit c =
    let reads = c.read-reading.ensures in
    read-book-fits _ _ reads (read-sound _ _ reads c.in_default.is) _ c.to_grid-caps.ensures

pub check_idle-requires : goal.check_idle-requires
check_idle-requires c =
    let ready = (goal.at.check_idle-requires c).After-to_grid-caps in
    (the-book ready, the-fit ready)

pub returns-in-Refused-check_idle : goal.returns-in-Refused-check_idle
returns-in-Refused-check_idle c =
    let refused = refuses c.check_idle.ensures c.in-Refused-check_idle.is in
    let away = c.turned_away-in-Refused-check_idle.ensures in
    let on = on-after (read_lines _) (idle_lines _) (accepted (goal.at.returns-in-Refused-check_idle c).In_default) in
    forecast-refused _ _ _ (on ∙ refused) away.0 away.1

-- ---- nor is a seat idle

pub file_length-length-requires : goal.file_length-length-requires
file_length-length-requires c =
    let ready = (goal.at.file_length-length-requires c).After-to_grid-caps in
    range-in _ _ (the-fit ready)

pub to_place-placed-requires : goal.to_place-placed-requires
to_place-placed-requires c =
    let ready = (goal.at.to_place-placed-requires c).After-to_grid-caps in
    range-in _ _ (the-fit ready)

pub returns : goal.returns
returns c =
    let ready = (goal.at.returns c).After-to_grid-caps in
    let caps = c.to_grid-caps.result in
    let free = passes c.check_idle.ensures c.in_default-check_idle.is in
    let on = on-after (read_lines _) (idle_lines _) (accepted (goal.at.returns c).In_default) in
    forecast-told _ (on ∙ free) _ caps (the-book ready) _ _
    (c.file_length-length.ensures caps caps ∙ length-in _ caps) c.to_place-placed.ensures
