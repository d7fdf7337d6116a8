-- What crosses to C: the refusal with the file that it is of, or the file that is chosen and where its sheet body lies.
use Rattle.std.specs.Prelude.{List, ℕ}
use Rattle.dayfile.specs.Layout.{sheet_start, sheet_size}
use Rattle.choice.specs.declared.Choice.{Choice}
use Rattle.choice.specs.declared.Choice.TheVariants.{Refused, First, Second}
use Rattle.choice.specs.declared.Span.{Span}
use Rattle.choice.specs.declared.BetterResult.{BetterResult}

-- where the sheet body of a file lies
abbrev pub span_of : List ℕ → Span
span_of f = record { start = sheet_start f; length = sheet_size f }

-- where the sheet body lies that is handed back; at a refusal nowhere
abbrev pub body_of : Choice → (f g : List ℕ) → Span
body_of (Refused file number at) f g = record { start = 0; length = 0 }
body_of First f g = span_of f
body_of Second f g = span_of g

-- a choice, with where the body lies
abbrev pub better_numbers : Choice → Span → BetterResult
better_numbers (Refused file number at) body =
    record { refusal = number; offset = at; file = file; start = body.start; length = body.length }
better_numbers First body = record { refusal = 0; offset = 0; file = 1; start = body.start; length = body.length }
better_numbers Second body = record { refusal = 0; offset = 0; file = 2; start = body.start; length = body.length }
