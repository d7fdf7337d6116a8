use mathlib.Core.Path.{refl, ap}
use Prim.Native.Nat.{ℕ, ◌/◌, ◌%◌}
use native.Mathlib.Numerals.{add-one}
use native.Mathlib.Omega.{arith}
use lib.ListN.{length-set, set}
use Rattle.lists.specs.Buffers.{put_at}
use Rattle.dayfile.specs.File.{bytes_of}
use Rattle.store.proofs.numbers.put.Goals as goal

pub bounds-buf-at-2 : goal.bounds-buf-at-2
bounds-buf-at-2 c = simp length-set (omega arith)

pub returns : goal.returns
unfolding put_at bytes_of
returns c =
    let a = c.args in
    record {
      bytes = record {
        buffer = ap (λ (k : ℕ). set (set a.buf.now a.at (a.x % 256)) k (a.x / 256)) (add-one a.at);
        place = refl;
      };
    }
