-- What crosses to C: the refusal, the length of a sheet body, or a group of seats.
use Rattle.reply.specs.declared.Reply.{Reply}
use Rattle.reply.specs.declared.Reply.TheVariants.{Refused, Sheet, Group}
use Rattle.reply.specs.declared.FulfilResult.{FulfilResult}

abbrev pub fulfil_numbers : Reply → FulfilResult
fulfil_numbers (Refused number at) = record { refusal = number; offset = at; length = 0; group = 0 }
fulfil_numbers (Sheet length) = record { refusal = 0; offset = 0; length = length; group = 0 }
fulfil_numbers (Group seats) = record { refusal = 0; offset = 0; length = 0; group = seats }
