-- The graph of a sheet shows the moves that are possible on it. Assumes nothing.
use mathlib.Core.Path.{◌≡◌, sym, ◌∙◌}
use mathlib.Core.Logic.{◌⊎◌, ◌↔◌, inl, inr, ⊎_elim}
use mathlib.Core.List.{List}
use Prim.Native.Nat.{ℕ, suc, ◌+◌, ◌<◌}
use native.Mathlib.Decide.{ℕ_discrete}
use native.Mathlib.Omega.{arith}
use lib.ListN.{length, get_or, set, replicate}
use lib.Seq.{get_or-set_same, get_or-set_other}
use Rattle.lists.proofs.Arrays.{zeros-at}
use Rattle.fairness.specs.Instance.{Instance, Sheet}
use Rattle.fairness.specs.Exchange.{Move, Possible}
use Rattle.fairness.specs.Cuts.{Closed}
use Rattle.model.specs.Book.{Grid, cell}
use Rattle.masks.specs.Sets.{In, Inserted}
use Rattle.masks.proofs.Laws.{bit-zero}
use Rattle.instance.specs.declared.Terms.{Terms}
use Rattle.instance.specs.Terms.{instance_in, Told, Shows}
use Rattle.reach.specs.declared.Graph.{Graph}
use Rattle.reach.specs.Graphs.{set_at, Reached}
use Rattle.paths.specs.Steps.{Drawn}
use Rattle.exchange.specs.Graphs.{Shown}

-- ---- a further holder

-- i is the seat, and has a credit in window w, of those below n
abbrev HasHere : List ℕ → ℕ → ℕ → ℕ → ℕ → Type 0
HasHere cells seat n w i = (i ≡ seat) × ((w < n) × (0 < get_or cells w 0))

-- the holders of the windows below n have the seat too, where it has a credit
abbrev pub Added : List ℕ → List ℕ → ℕ → ℕ → List ℕ → Type 0
Added holders cells seat n all = (w i : ℕ) → In i (set_at all w) ↔ (In i (set_at holders w) ⊎ HasHere cells seat n w i)

module _ (holders cells : List ℕ) (seat : ℕ) where
  pub added-first : Added holders cells seat 0 holders
  added-first w i = (inl, ⊎_elim (λ p. p) (λ h. absurd (omega (arith, h.1.0))))

  module _ (n : ℕ) (all : List ℕ) (a : Added holders cells seat n all) where
    more : (w i : ℕ) → HasHere cells seat n w i → HasHere cells seat (n + 1) w i
    more w i h = (h.0, (omega (arith, h.1.0), h.1.1))

    elsewhere : (w i : ℕ) → (w ≡ n → ⊥) → In i (set_at all w) ↔ (In i (set_at holders w) ⊎ HasHere cells seat (n + 1) w i)
    elsewhere w i d = (
      λ p. ⊎_elim inl (λ h. inr (more w i h)) ((a w i).0 p),
      ⊎_elim (λ p. (a w i).1 (inl p)) (λ h. (a w i).1 (inr (h.0, (omega (arith, h.1.0), h.1.1)))),
    )

    -- the seat has no credit in the next window
    pub added_out : (0 < get_or cells n 0 → ⊥) → Added holders cells seat (n + 1) all
    added_out out w i =
        elim (ℕ_discrete w n) [
          | no d ↦ elsewhere w i d
          | yes e ↦ (
            λ p. ⊎_elim inl (λ h. inr (more w i h)) ((a w i).0 p),
            ⊎_elim (λ p. (a w i).1 (inl p)) (λ h. absurd (out (rw e at h.1.1))),
          )
        ]

    -- it has one
    module _ (v : ℕ) (long : n < length all) (has : 0 < get_or cells n 0) (ins : Inserted (set_at all n) seat v) where
      here : (i : ℕ) → In i v ↔ (In i (set_at holders n) ⊎ HasHere cells seat (n + 1) n i)
      here i =
          elim (ℕ_discrete i seat) [
            | yes e ↦ (λ p. inr (e, (omega arith, has)), λ p. rw e ins.here)
            | no d ↦ (
              λ p. ⊎_elim inl (λ h. inr (more n i h)) ((a n i).0 (sym (ins.others i d) ∙ p)),
              ⊎_elim (λ p. ins.others i d ∙ (a n i).1 (inl p)) (λ h. absurd (d h.0)),
            )
          ]

      pub added-in : Added holders cells seat (n + 1) (set all n v)
      added-in w i =
          elim (ℕ_discrete w n) [
            | yes e ↦ rw e (rw (get_or-set_same all n v 0 long) (here i))
            | no d ↦ rw (get_or-set_other all n w v 0 d) (elsewhere w i d)
          ]

-- ---- the graph of a sheet, over functions on ℕ

-- a seat is below its cap in a window
abbrev pub HasRoom : Sheet → Sheet → ℕ → ℕ → ℕ → Type 0
HasRoom S cap windows k w = (w < windows) × (S k w < cap k w)

-- a seat below n has a credit in a window
abbrev HasCredit : Sheet → ℕ → ℕ → ℕ → ℕ → Type 0
HasCredit S windows n w k = (k < n) × ((w < windows) × (0 < S k w))

-- the sets are the holders of each window among the seats below n
abbrev pub HoldersOf : Sheet → ℕ → ℕ → List ℕ → Type 0
HoldersOf S windows n sets = (w k : ℕ) → In k (set_at sets w) ↔ HasCredit S windows n w k

-- no sets yet, where no seat below n has a credit
pub held_first : (S : Sheet) (windows n m : ℕ) → ((k w : ℕ) → k < n → S k w ≡ 0) → HoldersOf S windows n (replicate m 0)
held_first S windows n m none w k = (
  λ p. absurd (omega (arith, rw (zeros-at m w) at p, bit-zero k)),
  λ h. absurd (omega (arith, h.1.1, none k w h.0)),
)

pub held_next : (S : Sheet) (windows n : ℕ) (sets sets' cells : List ℕ) → HoldersOf S windows n sets
    → ((w : ℕ) → get_or cells w 0 ≡ S n w) → Added sets cells n windows sets' → HoldersOf S windows (n + 1) sets'
held_next S windows n sets sets' cells h same a w k = (to, from)
  where
    to : In k (set_at sets' w) → HasCredit S windows (n + 1) w k
    to p =
        ⊎_elim
        (λ q. let b = (h w k).0 q in (omega (arith, b.0), b.1))
        (λ b. (omega (arith, b.0), (b.1.0, rw b.0 (omega (arith, b.1.1, same w)))))
        ((a w k).0 p)

    from : HasCredit S windows (n + 1) w k → In k (set_at sets' w)
    from b =
        elim (ℕ_discrete k n) [
          | yes e ↦ (a w k).1 (inr (e, (b.1.0, omega (arith, rw e at b.1.1, same w))))
          | no d ↦ (a w k).1 (inl ((h w k).1 (omega (arith, b.0), b.1)))
        ]

-- its sets show the moves that are possible
pub drawn : (I : Instance) (S : Sheet) (graph : Graph) → Shown I S graph → Drawn I S graph
drawn I S graph shown k l w = (
  λ p.
      let taker = (shown.rooms_are k w).0 p.member in
      let giver = (shown.holders_are w l).0 p.leads in
      record { in_window = taker.1.0; in_giver = giver.0; in_taker = taker.0; has = giver.1.1; room = taker.1.1 },
  λ p.
      record {
        member = (shown.rooms_are k w).1 (p.in_taker, (p.in_window, p.room));
        leads = (shown.holders_are w l).1 (p.in_giver, (p.in_window, p.has));
      },
)

-- what a seat reaches is closed
pub reached-closed : (I : Instance) (S : Sheet) (graph : Graph) → Drawn I S graph → (g : ℕ) → Closed I S (Reached graph g)
reached-closed I S graph draws g m p (r, q) =
    (suc r, inr (m.taker, (q, record { via = m.window; here = (draws m.taker m.giver m.window).1 p })))

-- ---- and of all that the memory tells and shows

module _ (t : Terms) (caps grid : Grid) (I : Instance) (S : Sheet) (told : Told I t caps) (shows : Shows t S grid) where
  to : (m : Move) → Possible (instance_in t caps) (cell grid) m → Possible I S m
  to m p =
      let g = m.giver in
      let k = m.taker in
      let w = m.window in
      let caps_are = told.caps_are k w p.in_taker p.in_window in
      record {
        in_window = omega (arith, p.in_window, told.windows_are);
        in_giver = omega (arith, p.in_giver, told.seats_are);
        in_taker = omega (arith, p.in_taker, told.seats_are);
        has = omega (arith, p.has, shows g w p.in_giver p.in_window);
        room = omega (arith, p.room, shows k w p.in_taker p.in_window, caps_are);
      }

  from : (m : Move) → Possible I S m → Possible (instance_in t caps) (cell grid) m
  from m p =
      let g = m.giver in
      let k = m.taker in
      let w = m.window in
      let in_window : w < t.windows = omega (arith, p.in_window, told.windows_are) in
      let in_giver : g < t.seats = omega (arith, p.in_giver, told.seats_are) in
      let in_taker : k < t.seats = omega (arith, p.in_taker, told.seats_are) in
      record {
        in_window = in_window;
        in_giver = in_giver;
        in_taker = in_taker;
        has = omega (arith, p.has, shows g w in_giver in_window);
        room = omega (arith, p.room, shows k w in_taker in_window, told.caps_are k w in_taker in_window);
      }

  pub drawn-told : (graph : Graph) → Drawn (instance_in t caps) (cell grid) graph → Drawn I S graph
  drawn-told graph d k l w =
      let m : Move = record { window = w; giver = l; taker = k } in
      (λ p. to m ((d k l w).0 p), λ p. (d k l w).1 (from m p))
