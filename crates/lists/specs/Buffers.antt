-- Bytes that are stored in an output buffer.
use Rattle.std.specs.Prelude.{◌≡◌, List, ℕ, ◌+◌, ◌≤◌, length}
use Rattle.std.proofs.lemmas.List.Edits.{sets}

-- the buffer with the bytes stored one after the other from a place on; every other byte is kept
unfoldable pub put_at : List ℕ → ℕ → List ℕ → List ℕ
put_at buffer at bytes = sets buffer at bytes

-- the buffer is long enough for that
pub record Room (buffer : List ℕ) (at : ℕ) (bytes : List ℕ) : Type 0 where
  pub fits : at + length bytes ≤ length buffer

-- that was done, and the next byte's place is given
pub record Stored (before : List ℕ) (at : ℕ) (bytes after : List ℕ) (next : ℕ) : Type 0 where
  pub buffer : after ≡ put_at before at bytes
  pub place : next ≡ at + length bytes
