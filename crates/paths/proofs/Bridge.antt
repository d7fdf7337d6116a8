-- The graph in memory and the layers of the crate `fairness` are the same. Assumes nothing.
use mathlib.Core.Logic.{◌↔◌, inl, inr}
use Prim.Native.Nat.{ℕ, zero, suc, ◌<◌}
use Rattle.fairness.specs.Instance.{Instance}
use Rattle.fairness.specs.Layers.{Edge, Within}
use Rattle.reach.specs.declared.Graph.{Graph}
use Rattle.reach.specs.Graphs.{Takes, Reach}
use Rattle.paths.specs.Steps.{Drawn}

module _ (I : Instance) (S : ℕ → ℕ → ℕ) (graph : Graph) (d : Drawn I S graph) where
  takes-edge : (k l : ℕ) → Takes graph k l ↔ Edge I S k l
  takes-edge k l = (
    λ t. record { window = t.via; possible = (d k l t.via).0 t.here },
    λ e. record { via = e.window; here = (d k l e.window).1 e.possible },
  )

  pub reach-within : (r g l : ℕ) → Reach graph r g l → Within I S r g l
  reach-within zero g l e = e
  reach-within (suc r) g l (inl p) = inl (reach-within r g l p)
  reach-within (suc r) g l (inr (k, (p, q))) =
      let e = (takes-edge k l).0 q in
      inr (k, e.possible.in_taker, (reach-within r g k p, e))

  pub within-reach : (r g l : ℕ) → Within I S r g l → Reach graph r g l
  within-reach zero g l e = e
  within-reach (suc r) g l (inl p) = inl (within-reach r g l p)
  within-reach (suc r) g l (inr (k, h, (p, e))) = inr (k, (within-reach r g k p, (takes-edge k l).1 e))

  -- what a seat reaches is a seat
  pub reach-seat : (r g l : ℕ) → g < I.seats → Reach graph r g l → l < I.seats
  reach-seat zero g l h e = rw (← e) h
  reach-seat (suc r) g l h (inl p) = reach-seat r g l h p
  reach-seat (suc r) g l h (inr (k, (p, q))) = ((takes-edge k l).0 q).possible.in_giver
