-- Lawful and wasteful are document 000's frugal and not non-wasteful. Assumes nothing.
use mathlib.Core.Path.{◌≡◌, refl}
use mathlib.Core.Logic.{◌⊎◌, inl, inr, ◌↔◌}
use Prim.Native.Nat.{ℕ, ◌<◌}
use native.Mathlib.Decide.{dec_lt}
use native.Mathlib.Omega.{arith}
use Rattle.fairness.specs.Instance.{Wasteful, placed}
use Rattle.model.specs.Book.{Book, Grid, Lawful, cell, instance_of}
use Rattle.model.specs.Marks.{Mark, wasteful, improvable, tied, settled, mark_of}
use Rattle.model.proofs.Marks.{mark-means, waste-of}
use Rattle.demands.specs.Demands.{Frugal, NonWasteful}

module _ (b : Book) (s : Grid) where
  pub lawful-frugal : Lawful b s ↔ Frugal (instance_of b) (cell s)
  lawful-frugal = (
    λ h. record { allocation = h.fits; frugal = h.within },
    λ h. record { within = h.frugal; fits = h.allocation },
  )

  -- a sheet is wasteful or it is not
  wasteful? : Dec (Wasteful (instance_of b) (cell s))
  wasteful? = go (mark_of b s) refl
    where
      go : (m : Mark) → mark_of b s ≡ m → Dec (Wasteful (instance_of b) (cell s))
      go (wasteful j i) e = yes (waste-of b s j i ((mark-means b s (wasteful j i)).0 e))
      go (improvable f) e = no ((mark-means b s (improvable f)).0 e).0
      go (tied f) e = no ((mark-means b s (tied f)).0 e).0
      go settled e = no ((mark-means b s settled).0 e).0

  -- where nothing is wasted, each window is handed out or every seat has its cap there
  non-wasteful : Lawful b s → (Wasteful (instance_of b) (cell s) → ⊥) → NonWasteful (instance_of b) (cell s)
  non-wasteful lawful full j lj = go (dec_lt (placed (instance_of b) (cell s) j) ((instance_of b).supply j))
    where
      go : Dec (placed (instance_of b) (cell s) j < (instance_of b).supply j) →
          (placed (instance_of b) (cell s) j ≡ (instance_of b).supply j)
          ⊎ ((i : ℕ) → i < (instance_of b).seats → cell s i j ≡ (instance_of b).cap i j)
      go (no out) = inl (omega (arith, lawful.fits j lj))
      go (yes left) = inr (λ i li. at i li (dec_lt (cell s i j) ((instance_of b).cap i j)))
        where
          at : (i : ℕ) → i < (instance_of b).seats → Dec (cell s i j < (instance_of b).cap i j) → cell s i j ≡ (instance_of b).cap i j
          at i li (no q) = omega (arith, lawful.within i j li lj)
          at i li (yes room) =
              absurd (full (record { window = j; seat = i; in_window = lj; in_seat = li; left = left; room = room }))

  pub wasteful-not-non-wasteful : Lawful b s → Wasteful (instance_of b) (cell s) ↔ (NonWasteful (instance_of b) (cell s) → ⊥)
  wasteful-not-non-wasteful lawful = (to, back wasteful?)
    where
      to : Wasteful (instance_of b) (cell s) → NonWasteful (instance_of b) (cell s) → ⊥
      to w full = go (full w.window w.in_window)
        where
          go : (placed (instance_of b) (cell s) w.window ≡ (instance_of b).supply w.window)
              ⊎ ((i : ℕ) → i < (instance_of b).seats → cell s i w.window ≡ (instance_of b).cap i w.window) → ⊥
          go (inl out) = omega (arith, w.left)
          go (inr all) = omega (arith, all w.seat w.in_seat, w.room)

      back : Dec (Wasteful (instance_of b) (cell s)) → (NonWasteful (instance_of b) (cell s) → ⊥) → Wasteful (instance_of b) (cell s)
      back (yes w) q = w
      back (no full) q = absurd (q (non-wasteful lawful full))
