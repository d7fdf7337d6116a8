-- A loop that draws the moves among the later seats, one seat a turn. Assumes nothing.
use mathlib.Core.Path.{◌≡◌, refl, sym, ◌∙◌}
use mathlib.Core.Logic.{◌↔◌}
use mathlib.Core.List.{List, []}
use Prim.Native.Nat.{ℕ, ◌+◌, ◌<◌}
use native.Mathlib.Decide.{ℕ_discrete}
use native.Mathlib.Omega.{arith}
use lib.ListN.{length, get_or, set, replicate, length-set}
use Rattle.fairness.specs.Instance.{Instance, Sheet}
use Rattle.fairness.specs.Raising.{later_sheet, later_seats}
use Rattle.fairness.proofs.Decide.{keep-yes, keep-no}
use Rattle.fairness.proofs.Standard.{later-cell, other-cell, later-cap, earlier-cap, own-cap}
use Rattle.model.specs.Book.{Grid, cell}
use Rattle.instance.specs.declared.Terms.{Terms}
use Rattle.instance.specs.Terms.{instance_in}
use Rattle.masks.specs.Sets.{In, Inserted}
use Rattle.masks.proofs.Laws.{bit-zero}
use Rattle.reach.specs.Graphs.{Collects, Rows}
use Rattle.reach.proofs.Collect.{rows_none, rows_next}
use Rattle.exchange.proofs.Drawing.{Added, HasRoom, HoldersOf, held_first, held_next}
use Rattle.exchange.specs.Graphs.{Shown}

module _ (t : Terms) (caps grid : Grid) (i j : ℕ) where
  abbrev I : Instance
  I = instance_in t caps

  abbrev S : Sheet
  S = cell grid

  abbrev J : Instance
  J = later_seats I i j

  abbrev T : Sheet
  T = later_sheet S i

  -- the sets have the seats below n
  pub record DrawnTo (n : ℕ) (rooms holders : List ℕ) : Type 0 where
    pub after : i < n
    pub rooms-long : length rooms ≡ 32
    pub rooms_are : Rows n (HasRoom T J.cap t.windows) rooms
    pub holders-long : length holders ≡ 24
    pub holders_are : HoldersOf T t.windows n holders

  -- of seat i, room in window j alone
  module _ (own : ℕ) (ins : Inserted 0 j own) (lj : j < t.windows) where
    itself : (w : ℕ) → In w own ↔ HasRoom T J.cap t.windows i w
    itself w =
        elim (ℕ_discrete w j) [
          | yes e ↦ (
            λ p. (omega arith, omega (arith, empty, own-cap I S i j w, keep-yes (ℕ_discrete w j) 1 e)),
            λ h. rw e ins.here,
          )
          | no d ↦ (
            λ p. absurd (omega (arith, ins.others w d, bit-zero w)),
            λ h. absurd (omega (arith, h.1, empty, own-cap I S i j w, keep-no (ℕ_discrete w j) 1 d)),
          )
        ]
      where
        empty : T i w ≡ 0
        empty = other-cell I S i j i w (omega arith)

    pub first : i < 32 → DrawnTo (i + 1) (set (replicate 32 0) i own) (replicate 24 0)
    first li =
        let none = rows_none (HasRoom T J.cap t.windows) i 32 (λ k w l h. omega (arith, h.1, earlier-cap I S i j k w l)) in
        record {
          after = omega arith;
          rooms-long = simp length-set;
          rooms_are = rows_next _ i (replicate 32 0) none li own itself;
          holders-long = refl;
          holders_are = held_first T t.windows (i + 1) 24 (λ k w l. other-cell I S i j k w (omega arith));
        }

  module _ (n : ℕ) (rooms holders : List ℕ) (drawn : DrawnTo n rooms holders) where
    -- a later seat as it is
    pub next : n < 32 → (row : ℕ) → Collects t.windows (λ w. cell grid n w < cell caps n w) row → (all : List ℕ) → length all ≡ 24
        → Added holders (get_or grid n []) n t.windows all → DrawnTo (n + 1) (set rooms n row) all
    next ln row r all long added =
        let l = drawn.after in
        record {
          after = omega arith;
          rooms-long = length-set rooms n row ∙ drawn.rooms-long;
          rooms_are = rows_next _ n rooms drawn.rooms_are (omega (arith, drawn.rooms-long)) row (λ w. (
            λ p. let h = (r w).0 p in (h.0, omega (arith, h.1, later-cell I S i j n w l, later-cap I S i j n w l)),
            λ h. (r w).1 (h.0, omega (arith, h.1, later-cell I S i j n w l, later-cap I S i j n w l)),
          ));
          holders-long = long;
          holders_are =
              held_next T t.windows n holders all (get_or grid n []) drawn.holders_are (λ w. sym (later-cell I S i j n w l)) added;
        }

    pub last : n ≡ t.seats → Shown J T (record { rooms = rooms; holders = holders })
    last e = record { rooms_are = rw e at drawn.rooms_are; holders_are = rw e at drawn.holders_are }
