-- A move as two writes: the giver's cell is one less, then the taker's is one more.
use mathlib.Core.Path.{◌≡◌, ap, sym, ◌∙◌, fun_ext}
use mathlib.Core.Logic.{◌≢◌}
use Prim.Native.Nat.{ℕ, ◌+◌, ◌-◌, ◌≤◌, ◌<◌}
use native.Mathlib.Decide.{ℕ_discrete}
use native.Mathlib.Omega.{arith}
use Rattle.fairness.specs.Sums.{keep}
use Rattle.fairness.specs.Instance.{Instance}
use Rattle.fairness.specs.Exchange.{Move, play, Possible}
use Rattle.model.specs.Book.{Shaped}
use Rattle.sheet.specs.declared.Sheet.{Sheet}
use Rattle.sheet.specs.Sheets.{credit, grid_of, Playable, Written}
use Rattle.sheet.proofs.Cells.{put_in, put_is, put-shaped}

module _ (S T U : ℕ → ℕ → ℕ) (m : Move) where
  abbrev w : ℕ
  w = m.window

  -- no cell of the window is raised by giving
  given-le : Written S m.giver w (S m.giver w - 1) T → T m.taker w ≤ S m.taker w
  given-le p =
      elim (ℕ_discrete m.taker m.giver) [
        | yes e ↦ rw e (omega (arith, p.here))
        | no d ↦ omega (arith, p.seats m.taker w d)
      ]

  two-writes : 0 < S m.giver w → Written S m.giver w (S m.giver w - 1) T → Written T m.taker w (T m.taker w + 1) U
      → U ≡ play S m
  unfolding play
  two-writes h p q = fun_ext (λ i. fun_ext (λ j. at i j (ℕ_discrete i m.taker) (ℕ_discrete i m.giver) (ℕ_discrete j w)))
    where
      other : (i j : ℕ) → j ≢ w → U i j ≡ S i j
      other i j d = q.windows i j d ∙ p.windows i j d

      at : (i j : ℕ) (t : Dec (i ≡ m.taker)) (g : Dec (i ≡ m.giver)) (b : Dec (j ≡ w))
          → U i j ≡ S i j + keep t (keep b 1) - keep g (keep b 1)
      at i j (yes t) (yes g) (yes b) =
          let e : m.taker ≡ m.giver = sym t ∙ g in
          rw (t, b) (omega (arith, q.here, p.here, ap (λ (x : ℕ). T x w) e, ap (λ (x : ℕ). S x w) e))
      at i j (yes t) (no g) (yes b) = rw (t, b) (omega (arith, q.here, p.seats m.taker w (λ e. g (t ∙ e))))
      at i j (no t) (yes g) (yes b) = rw (g, b) (omega (arith, p.here, q.seats m.giver w (λ e. t (g ∙ e))))
      at i j (no t) (no g) b = omega (arith, q.seats i j t, p.seats i j g)
      at i j (yes t) (yes g) (no b) = omega (arith, other i j b)
      at i j (yes t) (no g) (no b) = omega (arith, other i j b)
      at i j (no t) (yes g) (no b) = omega (arith, other i j b)

-- a possible move is playable, where the book fits the arrays
pub playable : (I : Instance) (S : ℕ → ℕ → ℕ) (m : Move) → I.seats ≤ 32 → I.windows ≤ 24
    → I.cap m.taker m.window ≤ 65535 → Possible I S m → Playable S m
playable I S m a b h p = record {
  in_window = omega (arith, p.in_window);
  in_giver = omega (arith, p.in_giver);
  in_taker = omega (arith, p.in_taker);
  has = p.has;
  room = omega (arith, p.room);
}

module _ (s : Sheet) (p : Shaped 32 24 (grid_of s)) (m : Move) (r : Playable (credit s) m) where
  abbrev given : Sheet
  given = put_in s m.giver m.window (credit s m.giver m.window - 1)

  abbrev taken : Sheet
  taken = put_in given m.taker m.window (credit given m.taker m.window + 1)

  giving : Written (credit s) m.giver m.window (credit s m.giver m.window - 1) (credit given)
  giving = put_is s p m.giver m.window _ r.in_giver r.in_window

  pub taker-le : credit given m.taker m.window ≤ credit s m.taker m.window
  taker-le = given-le (credit s) (credit given) (credit taken) m giving

  pub play-is : credit taken ≡ play (credit s) m
  play-is =
      let shape = put-shaped s p m.giver m.window _ r.in_giver r.in_window in
      two-writes (credit s) (credit given) (credit taken) m r.has giving
      (put_is given shape m.taker m.window _ r.in_taker r.in_window)
