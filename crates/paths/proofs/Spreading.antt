-- Layers that a search outward from a seat leaves behind. Assumes nothing.
use mathlib.Core.Logic.{◌⊎◌, inl, inr, ⊎_elim}
use Prim.Native.Nat.{ℕ, ◌^◌, ◌<◌}
use native.Mathlib.Omega.{arith}
use Rattle.masks.specs.Sets.{In, size_of}
use Rattle.masks.proofs.Laws.{count-all, in_small, size-le}
use Rattle.reach.specs.declared.Graph.{Graph}
use Rattle.reach.specs.declared.Wave.{Wave}
use Rattle.reach.specs.Graphs.{Layer, Reached, Spread}
use Rattle.reach.proofs.Waves.{Growing, last}

-- a set is what at most n moves reach from g; and that is all that moves reach, or more than n seats
pub record Holds (graph : Graph) (g n set : ℕ) : Type 0 where
  pub layer : Layer graph g n set
  pub all-or : ((l : ℕ) → Reached graph g l → In l set) ⊎ (n < size_of set)

module _ (graph : Graph) (g n : ℕ) (w : Wave) (s : Spread graph g n w) (growing : Growing n w) where
  pub holds : Holds graph g n w.seen
  holds = record { layer = s.layer; all-or = ⊎_elim (λ z. inl (λ l r. (last graph g n w s z l).1 r)) inr growing }

-- after 32 moves nothing is in front, so the layer of 31 moves has all
pub all-in : (graph : Graph) (g set : ℕ) (w : Wave) → Holds graph g 31 set → Spread graph g 32 w → Growing 32 w → w.seen < 2 ^ 32
    → (l : ℕ) → Reached graph g l → In l set
all-in graph g set w h s (inr more) fits l r = absurd (omega (arith, size-le w.seen))
all-in graph g set w h s (inl z) fits l r =
    ⊎_elim (λ all. all l r) (λ full. count-all 32 set l (omega arith) (in_small w.seen l fits ((last graph g 32 w s z l).1 r))) h.all-or
