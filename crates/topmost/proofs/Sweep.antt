-- The turns of the sweep. Assumes nothing.
use mathlib.Core.Path.{◌≡◌}
use mathlib.Core.Logic.{◌⊎◌, ◌↔◌, inl, inr, ⊎_elim}
use mathlib.Core.List.{List}
use Prim.Native.Nat.{ℕ, suc, ◌≤◌, ◌<◌}
use native.Mathlib.Decide.{dec_lt, ℕ_discrete}
use native.Mathlib.Omega.{arith}
use lib.ListN.{get_or, replicate}
use Rattle.lists.proofs.Arrays.{zeros-at}
use Rattle.fairness.specs.Instance.{Instance, Sheet}
use Rattle.fairness.specs.Raising.{ClosedFrom, Holds, Beyond}
use Rattle.fairness.proofs.Standard.{closed-start, closed-step, closed-from-blocked}
use Rattle.reach.specs.Graphs.{set_at, Collects, Through}
use Rattle.topmost.specs.Sweep.{Leads, Share, Clear, Grows, BlockedIn, BlockedFrom}

-- what is known when the seats from p on were passed
pub record Swept (I : Instance) (S : Sheet) (p : ℕ) (sets : List ℕ) : Type 0 where
  pub closed : ClosedFrom I S p (Leads sets)
  pub blocked : BlockedFrom I S p

module _ (I : Instance) (S : Sheet) where
  pub swept-first : (n : ℕ) (sets : List ℕ) → I.seats ≡ n → ((w : ℕ) → w < I.windows → Leads sets w w) → Swept I S n sets
  swept-first n sets e h =
      rw (← e) (record { closed = closed-start I S (Leads sets) h; blocked = λ i j l li. absurd (omega arith) })

  module _ (p : ℕ) (sets : List ℕ) (rooms holds : ℕ)
      (roomy : Collects I.windows (λ w. S p w < I.cap p w) rooms) (held : Collects I.windows (λ w. 0 < S p w) holds)
      (b : Swept I S (suc p) sets)
    where
      -- the seat's own cells
      row-blocked : Clear I.windows sets rooms holds → (j : ℕ) → j < I.windows → S p j < I.cap p j → BlockedIn I S p j
      row-blocked clear j lj r =
          record {
            mask = set_at sets j;
            blocked = closed-from-blocked I S p j (Leads sets) lj b.closed (λ w l lw m. nothing w l lw m (dec_lt 0 (S p w)));
          }
        where
          nothing : (w : ℕ) → j < w → w < I.windows → Leads sets j w → Dec (0 < S p w) → S p w ≡ 0
          nothing w l lw m (no h) = omega arith
          nothing w l lw m (yes h) =
              absurd (omega (arith, (held w).1 (lw, h), clear j w lj ((roomy j).1 (lj, r)) l m))

      holds-is : (w : ℕ) → Share (set_at sets w) holds ↔ Holds I S p (Leads sets w)
      holds-is w = (
        λ s.
            let h = (held s.member).0 s.of_second in
            record { window = s.member; in_window = h.0; member = s.of_first; held = h.1 },
        λ h. record { member = h.window; of_first = h.member; of_second = (held h.window).1 (h.in_window, h.held) },
      )

      beyond-is : (v : ℕ) → Through rooms sets v ↔ Beyond I S p (Leads sets) v
      beyond-is v = (
        λ t.
            let r = (roomy t.via).0 t.here.member in
            record { window = t.via; in_window = r.0; room = r.1; member = t.here.leads },
        λ b.
            record {
              via = b.window;
              here = record { member = (roomy b.window).1 (b.in_window, b.room); leads = b.member };
            },
      )

      swept-next : (more : List ℕ) → Clear I.windows sets rooms holds → Grows I.windows sets rooms holds more → Swept I S p more
      swept-next more clear grows =
          record {
            closed = closed-step I S p (Leads sets) (Leads more) b.closed (λ w v lw lv. (to w v lw, from w v lw));
            blocked = λ i j l li lj r. at i j l li lj r (ℕ_discrete i p);
          }
        where
          to : (w v : ℕ) → w < I.windows → Leads more w v → Leads sets w v ⊎ (Holds I S p (Leads sets w) × Beyond I S p (Leads sets) v)
          to w v lw m = ⊎_elim inl (λ x. inr ((holds-is w).0 x.0, (beyond-is v).0 x.1)) ((grows w lw v).0 m)

          from : (w v : ℕ) → w < I.windows → Leads sets w v ⊎ (Holds I S p (Leads sets w) × Beyond I S p (Leads sets) v) → Leads more w v
          from w v lw x = (grows w lw v).1 (⊎_elim inl (λ y. inr ((holds-is w).1 y.0, (beyond-is v).1 y.1)) x)

          at : (i j : ℕ) → p ≤ i → i < I.seats → j < I.windows → S i j < I.cap i j → Dec (i ≡ p) → BlockedIn I S i j
          at i j l li lj r (yes e) = rw e (row-blocked clear j lj (rw e at r))
          at i j l li lj r (no d) = b.blocked i j (omega arith) li lj r

-- a turn, with the sets as they are made in memory
module _ (I : Instance) (S : Sheet) (n : ℕ) (same : I.windows ≡ n) (sets more : List ℕ) (rooms holds : ℕ) where
  pub swept-turn : (i p : ℕ) → i ≡ suc p → Swept I S i sets → Collects n (λ w. S p w < I.cap p w) rooms
      → Collects n (λ w. get_or (replicate 24 0) w 0 < S p w) holds → Clear n sets rooms holds → Grows n sets rooms holds more
      → Swept I S p more
  swept-turn i p e b roomy held clear grows =
      swept-next I S p sets rooms holds (rw (← same) at roomy) (λ w. (λ q. to w ((held w).0 q), λ q. (held w).1 (from w q)))
      (rw e at b) more (rw (← same) at clear) (rw (← same) at grows)
    where
      to : (w : ℕ) → (w < n) × (get_or (replicate 24 0) w 0 < S p w) → (w < I.windows) × (0 < S p w)
      to w h = (omega (arith, h.0, same), omega (arith, h.1, zeros-at 24 w))

      from : (w : ℕ) → (w < I.windows) × (0 < S p w) → (w < n) × (get_or (replicate 24 0) w 0 < S p w)
      from w h = (omega (arith, h.0, same), omega (arith, h.1, zeros-at 24 w))
