-- What is left where a read or a write fails, of a reader or a writer whose bytes are known or not.
use Rattle.std.specs.Prelude.{List, ℕ, take}
use Rattle.std.specs.declared.option.Option.{Option}
use Rattle.std.specs.Io.KnownBytes.{Appends, Consumes}

-- a writer took a front of these bytes
abbrev pub AppendsFront : (old new : Option (List ℕ)) → List ℕ → Type 0
AppendsFront old new bytes = (n : ℕ) × Appends old new (take n bytes)

-- a reader gave a front of these bytes
abbrev pub ConsumesFront : (old new : Option (List ℕ)) → List ℕ → Type 0
ConsumesFront old new bytes = (n : ℕ) × Consumes old new (take n bytes)

-- a writer kept what it had, and took some bytes or none
pub record AppendsSome (old new : Option (List ℕ)) : Type 0 where
  pub bytes : List ℕ
  pub appends : Appends old new bytes
