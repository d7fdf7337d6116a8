-- The search for a cycle, on the graph of the later seats and on the grid. Assumes nothing.
use mathlib.Core.Path.{◌≡◌, refl, sym, ◌∙◌}
use Rattle.std.specs.Prelude.{Option, None, Some}
use mathlib.Core.Logic.{◌↔◌}
use mathlib.Core.List.{List}
use Prim.Native.Nat.{ℕ, ◌+◌, ◌-◌, ◌≤◌, ◌<◌, min}
use native.Mathlib.Decide.{ℕ_discrete, dec_lt}
use native.Mathlib.Omega.{arith}
use lib.ListN.{get_or, replicate}
use Rattle.lists.proofs.Arrays.{zeros-at}
use Rattle.fairness.specs.Instance.{Instance, Proper, Sheet}
use Rattle.fairness.specs.Exchange.{Possible, Settled}
use Rattle.fairness.specs.Raising.{Topmost, closing, later_sheet, later_seats}
use Rattle.fairness.proofs.Decide.{keep-no}
use Rattle.fairness.proofs.Standard.{blocked-topmost, closed-blocked, later-raises}
use Rattle.fairness.proofs.Standard.{later-cell, later-cap, earlier-cap, own-cap}
use Rattle.masks.specs.Sets.{bit, In, Inserted, Full}
use Rattle.masks.proofs.Laws.{bit-lt, bit-zero}
use Rattle.reach.specs.declared.Graph.{Graph}
use Rattle.reach.specs.Graphs.{set_at, Collects, Through, UnionOver, Reached}
use Rattle.paths.specs.Layers.{Meets}
use Rattle.paths.specs.Paths.{moves_of}
use Rattle.paths.specs.Steps.{Drawn}
use Rattle.exchange.specs.Graphs.{Shown}
use Rattle.exchange.proofs.Drawing.{drawn, reached-closed}
use Rattle.exchange.proofs.Finding.{writable}
use Rattle.climb.specs.declared.Cycle.{Cycle}
use Rattle.climb.specs.Cycles.{ClosesIn, CycleIn, Raising, Finds}

-- ---- sets of windows

-- the windows in which a row has more than no credit, without those up to j
pub held-later : (row : List ℕ) (n j held passed r : ℕ) → Collects n (λ w. get_or (replicate 24 0) w 0 < get_or row w 0) held
    → Full (j + 1) passed → ((k : ℕ) → bit r k ≡ bit held k - bit passed k) → Collects n (λ w. (j < w) × (0 < get_or row w 0)) r
held-later row n j held passed r h full minus w =
    elim (dec_lt j w) [
      | yes l ↦
          let same : bit r w ≡ bit held w = omega (arith, minus w, full.outside w (omega arith)) in (
            λ p. let a = (h w).0 (sym same ∙ p) in (a.0, (l, omega (arith, a.1, zeros-at 24 w))),
            λ a. same ∙ (h w).1 (a.0, omega (arith, a.1.1, zeros-at 24 w)),
          )
      | no l ↦ (
        λ p. absurd (omega (arith, minus w, full.inside w (omega arith), bit-lt held w)),
        λ a. absurd (l a.1.0),
      )
    ]

-- a set that has one window alone
only : (q k set : ℕ) → Inserted 0 q set → In k set → k ≡ q
only q k set ins p = elim (ℕ_discrete k q) [ yes e ↦ e | no d ↦ absurd (omega (arith, ins.others k d, bit-zero k)) ]

-- a member with room in a window meets the set of that window, and the other way round
module _ (seats : ℕ) (rooms : List ℕ) (q set : ℕ) (ins : Inserted 0 q set) where
  pub room-meets : Through seats rooms q → (l : ℕ) × Meets seats rooms set l
  room-meets t =
      (t.via, record { member = t.here.member; shared = q; own = t.here.leads; others = ins.here })

  pub meets-room : (l : ℕ) → Meets seats rooms set l → In q (set_at rooms l)
  meets-room l m = rw (only q m.shared set ins m.others) at m.own

-- ---- on a graph

module _ (graph : Graph) (i goals seats all both : ℕ)
    (reaches : (l : ℕ) → In l seats ↔ Reached graph i l)
    (union : UnionOver seats graph.rooms all)
    (meet : (k : ℕ) → bit both k ≡ min (bit all k) (bit goals k)) where
  -- the seats that are reached have no room in a goal
  pub no-goal : both ≡ 0 → CycleIn graph i goals None
  no-goal z l q r room goal =
      let joined = union.whole q (record { via = l; here = record { member = (reaches l).1 r; leads = room } }) in
      omega (arith, joined, goal, rw z at (meet q), bit-zero q)

  -- they have, in window q
  module _ (q : ℕ) (here : In q both) where
    pub goal-room : Through seats graph.rooms q
    goal-room = union.sound q (omega (arith, meet q, bit-lt all q))

    pub goal-closes : (c : Cycle) → ClosesIn graph i q c → CycleIn graph i goals (Some c)
    goal-closes c h = (q, (omega (arith, meet q, bit-lt goals q), h))

-- ---- on a grid

module _ (I : Instance) (S : Sheet) (i j : ℕ) (graph : Graph) where
  abbrev J : Instance
  J = later_seats I i j

  abbrev T : Sheet
  T = later_sheet S i

  module _ (shown : Shown J T graph) where
    draws : Drawn J T graph
    draws = drawn J T graph shown

    module _ (proper : Proper I) (settled : Settled I S) (li : i < I.seats) (lj : j < I.windows)
        (goals : ℕ) (held : Collects I.windows (λ w. (j < w) × (0 < S i w)) goals) where
      none-topmost : ((l q : ℕ) → Reached graph i l → In q (set_at graph.rooms l) → In q goals → ⊥) → Topmost I S i j
      none-topmost none =
          blocked-topmost I proper S settled _ i j li lj
          (closed-blocked I S i j (Reached graph i) li (0, refl) (reached-closed J T graph draws i) closes)
        where
          closes : (l q : ℕ) → Reached graph i l → i < l → j < q → Possible I S (closing i l q) → ⊥
          closes l q r b a p =
              let room : T l q < J.cap l q = omega (arith, p.room, later-cell I S i j l q b, later-cap I S i j l q b) in
              none l q r ((shown.rooms_are l q).1 (p.in_taker, (p.in_window, room))) ((held q).1 (p.in_window, (a, p.has)))

      -- who has room in a window after j is a later seat
      later : (l q : ℕ) → j < q → T l q < J.cap l q → i < l
      later l q b room =
          elim (dec_lt i l) [
            | yes a ↦ a
            | no a ↦
                elim (ℕ_discrete l i) [
                  | yes e ↦
                      let own = rw e at room in
                      absurd (omega (arith, own, own-cap I S i j q, keep-no (ℕ_discrete q j) 1 (λ c. omega arith)))
                  | no d ↦ absurd (omega (arith, room, earlier-cap I S i j l q (omega arith)))
                ]
          ]

      module _ (few-seats : I.seats ≤ 32) (few-windows : I.windows ≤ 24) (below-cap : S i j < I.cap i j) where
        found-raises : (c : Cycle) (q : ℕ) → In q goals → ClosesIn graph i q c → Raising I S i j c
        found-raises c q goal h =
            let l = c.closing.taker in
            let taker = (shown.rooms_are l q).0 h.room in
            let giver = (held q).0 goal in
            let b = later l q giver.1.0 taker.1.1 in
            let room : S l q < I.cap l q = omega (arith, taker.1.1, later-cell I S i j l q b, later-cap I S i j l q b) in
            record {
              giver_is = h.giver_is;
              raises =
                  rw h.window_is
                  (later-raises I S i j below-cap l q (moves_of c.path) (h.path.path J T draws) b giver.1.0
                  (record { in_window = giver.0; in_giver = li; in_taker = taker.0; has = giver.1.1; room = room }));
              writable = writable J T graph draws few-seats few-windows i l c.path h.path;
            }

        pub finds : (found : Option Cycle) → CycleIn graph i goals found → Finds I S i j found
        finds (Some c) (q, (goal, h)) = found-raises c q goal h
        finds None none = none-topmost none
