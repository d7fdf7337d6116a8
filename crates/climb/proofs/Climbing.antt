-- A pass over the cells in reading order, in each turn a cycle that raises the cell. Assumes nothing.
use mathlib.Core.Path.{◌≡◌, sym, ap, ◌∙◌, subst, fun_ext}
use mathlib.Core.List.{List, ◌∷◌}
use Prim.Native.Nat.{ℕ, ◌+◌, ◌-◌, ◌<◌}
use native.Mathlib.Numerals.{add-one}
use native.Mathlib.Omega.{arith}
use Rattle.fairness.specs.Instance.{Instance, Proper, Sheet}
use Rattle.fairness.specs.Exchange.{Move, play, play_all, PlaysOut, Settled}
use Rattle.fairness.specs.Standard.{Standard}
use Rattle.fairness.specs.Raising.{Topmost, closing}
use Rattle.fairness.proofs.Standard.{cycle-plays, cycle-settled, cycle-before, cycle-raised}
use Rattle.fairness.proofs.Standard.{top_start, top_kept, top-next, top-next-seat, top-end}
use Rattle.model.specs.Book.{Grid, cell}
use Rattle.sheet.specs.declared.Sheet as memory
use Rattle.sheet.specs.Sheets.{credit, grid_of}
use Rattle.sheet.proofs.Cells.{credit-is}
use Rattle.paths.specs.Paths.{moves_of}
use Rattle.instance.specs.declared.Terms.{Terms}
use Rattle.instance.specs.Terms.{instance_in, Small}
use Rattle.instance.proofs.Told.{small-proper}
use Rattle.settle.specs.Playing.{AllPlayable, Plays}
use Rattle.settle.proofs.Playing.{all-playable}
use Rattle.climb.specs.declared.Cycle.{Cycle}
use Rattle.climb.specs.Cycles.{cycle_moves, Raising, Climbed}

-- ---- a grid that the closing move is played on as a sheet

module _ (s closed : memory.Sheet) (g r : Grid) (m : Move)
    (e : grid_of s ≡ g) (p : credit closed ≡ play (credit s) m) (f : r ≡ grid_of closed)
  where
    closed_is : play (cell g) m ≡ cell r
    closed_is = sym (ap cell f ∙ sym (credit-is closed) ∙ p ∙ ap (λ (S : Sheet). play S m) (credit-is s ∙ ap cell e))

    pub closed-able : (ms : List Move) → AllPlayable (cell g) (m ∷ ms) → AllPlayable (cell r) ms
    closed-able ms able = subst (λ (S : Sheet). AllPlayable S ms) closed_is able.1

    pub closed-plays : (ms : List Move) (T : Sheet) → Plays (cell r) ms T → Plays (cell g) (m ∷ ms) T
    closed-plays ms T plays = subst (λ (S : Sheet). Plays S ms T) (sym closed_is) plays

module _ (t : Terms) (caps : Grid) (small : Small t caps) where
  abbrev I : Instance
  I = instance_in t caps

  proper : Proper I
  proper = small-proper t caps small

  -- ---- a cycle that is played

  module _ (S : Sheet) (i j : ℕ) (climbed : Climbed I S i j) (c : Cycle) (raising : Raising I S i j c) where
    moves-are : closing i c.closing.taker c.closing.window ∷ moves_of c.path ≡ cycle_moves c
    moves-are = rw raising.giver_is

    pub turn-playable : AllPlayable S (cycle_moves c)
    turn-playable =
        all-playable I S (cycle_moves c) small.ranged.seats_most small.ranged.windows_most small.caps_most
        (subst (PlaysOut I S) moves-are (cycle-plays I proper S climbed.settled i j _ _ _ raising.raises))

    module _ (T : Sheet) (plays : Plays S (cycle_moves c) T) where
      after : play_all S (closing i c.closing.taker c.closing.window ∷ moves_of c.path) ≡ T
      after = ap (play_all S) moves-are ∙ fun_ext (λ a. fun_ext (λ b. sym (plays a b)))

      settled : Settled I T
      settled = rw after at (cycle-settled I proper S climbed.settled i j _ _ _ raising.raises)

      pub turn-climbed : j < t.windows → Climbed I T i j
      turn-climbed lj =
          let same = rw after at (cycle-before I proper S climbed.settled i j _ _ _ raising.raises) in
          record { settled = settled; before = top_kept I S T i j (omega arith) same climbed.before }

      pub turn-less : i < t.seats → j < t.windows → cell caps i j - T i j < cell caps i j - S i j
      turn-less li lj =
          let more = rw after at (cycle-raised I proper S climbed.settled i j _ _ _ raising.raises) in
          omega (arith, more, settled.feasible.within i j li lj)

  -- ---- the next cell, the next seat, and the end

  module _ (S : Sheet) where
    pub pass-start : Settled I S → Climbed I S 0 0
    pass-start s = record { settled = s; before = top_start I S }

    pub pass-next : (i j : ℕ) → Climbed I S i j → Topmost I S i j → Climbed I S i (j + 1)
    pass-next i j c top = rw (add-one j) (record { settled = c.settled; before = top-next I S i j top c.before })

    pub pass-next-seat : (i : ℕ) → Climbed I S i t.windows → Climbed I S (i + 1) 0
    pass-next-seat i c = rw (add-one i) (record { settled = c.settled; before = top-next-seat I S i c.before })

    pub pass-end : Climbed I S t.seats 0 → Standard I S
    pass-end c = top-end I S proper c.settled c.before
