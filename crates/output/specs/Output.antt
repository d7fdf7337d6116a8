-- What the program `plan` prints of a file: the planner's answer. (What `mark` prints is the listing, `Lists`.) And what both write of
-- their input.
use Rattle.std.specs.Prelude.{◌≡◌, List, ℕ, length, take}
use Rattle.std.specs.declared.option.Option.{Option}
use Rattle.std.specs.Io.KnownBytes.{Appends}
use Rattle.dayfile.specs.declared.Written.{Written}
use Rattle.dayfile.specs.declared.Written.TheVariants.{Refused, Whole}
use Rattle.dayfile.specs.Memory.{front}
use Rattle.lines.specs.Lines.{refusal_line}
use Rattle.streams.specs.Streams.{AppendsFront}
use Rattle.listing.specs.Calls.{Lists}
use Rattle.planner.specs.Planning.{Plans}

-- from the planner's answer and the buffer as it left it: a planned file stays, and a refusal's line goes to the front
abbrev pub PrintedOf : Written → (planned after : List ℕ) → ℕ → Type 0
PrintedOf (Whole n) planned after r = (r ≡ n) × (after ≡ planned)
PrintedOf (Refused number at) planned after r =
    (r ≡ length (refusal_line number at)) × (after ≡ front (refusal_line number at) planned)

-- the contract: the first r bytes of the buffer are to be printed
pub record PrintsPlan (file before after : List ℕ) (r : ℕ) : Type 0 where
  pub planner : Written
  pub planned : List ℕ
  pub plans : Plans file before planned planner
  pub prints : PrintedOf planner planned after r

-- ---- the programs

-- what a program takes of its input: all of it, or its first 65,536 bytes
abbrev pub taken : List ℕ → List ℕ
taken input = take 65536 input

-- the contract of what `mark` prints, like that of `plan`: the first r bytes of the buffer are the listing
abbrev pub PrintsMark : (file before after : List ℕ) → ℕ → Type 0
PrintsMark file before after r = Lists file before after (Whole r)

-- a writer took what a program prints, the front of a buffer, where P is the contract of that
pub record Writes (P : (before after : List ℕ) → ℕ → Type 0) (old new : Option (List ℕ)) : Type 0 where
  pub before : List ℕ
  pub after : List ℕ
  pub size : ℕ
  pub prints : P before after size
  pub bytes : Appends old new (take size after)

-- or, where a write failed, a front of that
pub record Stops (P : (before after : List ℕ) → ℕ → Type 0) (old new : Option (List ℕ)) : Type 0 where
  pub before : List ℕ
  pub after : List ℕ
  pub size : ℕ
  pub prints : P before after size
  pub bytes : AppendsFront old new (take size after)
