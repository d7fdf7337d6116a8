-- The search outward from a seat: each move keeps what holds of it, and at its end all was seen. Assumes nothing.
use mathlib.Core.Path.{◌≡◌, refl}
use mathlib.Core.Logic.{◌⊎◌, inl, inr, ◌↔◌}
use Prim.Native.Nat.{ℕ, zero, suc, ◌+◌, ◌-◌, ◌^◌, ◌<◌, min, max}
use native.Mathlib.Numerals.{add-one}
use native.Mathlib.Decide.{ℕ_discrete, dec_lt}
use native.Mathlib.Omega.{arith}
use lib.ListN.{length}
use Rattle.masks.specs.Sets.{bit, In, size_of, Inserted, Full, Lowest}
use Rattle.masks.proofs.Laws.{bit-lt, bit-zero, size-le, within-size, within-less}
use Rattle.masks.proofs.Machine.{lowest-is}
use lib.Count.{count_trailing_zeros}
use Rattle.reach.specs.declared.Graph.{Graph}
use Rattle.reach.specs.declared.Wave.{Wave}
use Rattle.reach.specs.Graphs.{set_at, Leads, Through, UnionOver, Takes, Reach, Reached, Spread, Grown}
use Rattle.reach.proofs.Members.{at_small}

module _ (graph : Graph) (g : ℕ) where
  pub first : (here windows : ℕ) → length graph.holders ≡ 24 → Inserted 0 g here → Full 24 windows
      → Spread graph g 0 (record { seen = here; front = here; windows = windows })
  first here windows long i all = record {
    layer = λ l. (is-g l, λ e. rw (← e) i.here);
    within = λ k. omega arith;
    looked = λ a v p q m. absurd (omega arith);
    shut = λ v l o p. absurd (omega (arith, all.inside v (omega (arith, at_small graph.holders v l p))));
    few = λ v p. elim (dec_lt v 24) [ yes h ↦ h | no h ↦ absurd (omega (arith, all.outside v (omega arith))) ];
  }
    where
      is-g : (l : ℕ) → In l here → g ≡ l
      is-g l p = elim (ℕ_discrete g l) [ yes e ↦ e | no d ↦ absurd (omega (arith, i.others l (λ e. d (omega arith)), bit-zero l)) ]

  -- ---- one move more

  module _ (n : ℕ) (w : Wave) (s : Spread graph g n w) (near left far front seen windows : ℕ)
      (rooms : UnionOver w.front graph.rooms near) (shared : (v : ℕ) → bit left v ≡ min (bit near v) (bit w.windows v))
      (held : UnionOver left graph.holders far) (fresh : (l : ℕ) → bit front l ≡ bit far l - bit w.seen l)
      (joined : (l : ℕ) → bit seen l ≡ max (bit w.seen l) (bit front l))
      (shuts : (v : ℕ) → bit windows v ≡ bit w.windows v - bit left v) where
    old : (l : ℕ) → In l w.seen → In l seen
    old l p = omega (arith, joined l, bit-lt seen l)

    -- who holds a credit in a window that is looked into now is seen
    now : (l : ℕ) → In l far → In l seen
    now l p = omega (arith, fresh l, joined l, bit-lt seen l, bit-lt w.seen l)

    -- a window in which a seat has room that was seen: it was looked into, or is now
    room_shut : (k v : ℕ) → In k w.seen → In v (set_at graph.rooms k) → bit windows v ≡ 0
    room_shut k v p m =
        elim (ℕ_discrete (bit w.front k) 1) [
          | yes e ↦
              let here : In v near = rooms.whole v (record { via = k; here = record { member = e; leads = m } }) in
              omega (arith, shared v, shuts v, bit-lt w.windows v)
          | no d ↦ omega (arith, s.looked k v p (omega (arith, bit-lt w.front k)) m, shuts v)
        ]

    all-shut : (v l : ℕ) → bit windows v ≡ 0 → In l (set_at graph.holders v) → In l seen
    all-shut v l z p =
        elim (ℕ_discrete (bit left v) 1) [
          | yes e ↦ now l (held.whole l (record { via = v; here = record { member = e; leads = p } }))
          | no d ↦ old l (s.shut v l (omega (arith, shuts v, bit-lt left v)) p)
        ]

    -- who is seen and was not holds a credit in a window that is looked into now
    in-far : (l : ℕ) → In l seen → (In l w.seen → ⊥) → In l far
    in-far l p d = omega (arith, joined l, fresh l, bit-lt w.seen l, bit-lt far l)

    in_near : (v : ℕ) → In v left → In v near
    in_near v p = omega (arith, shared v, bit-lt near v)

    in-seen : (k : ℕ) → In k w.front → In k w.seen
    in-seen k p = omega (arith, s.within k, bit-lt w.seen k)

    -- a seat in front has room in a window, and l holds a credit there
    step : (l : ℕ) (held : Through left graph.holders l) → Through w.front graph.rooms held.via → Reach graph (suc n) g l
    step l held k =
        let here : Leads (set_at graph.rooms k.via) graph.holders l held.via =
        record { member = k.here.leads; leads = held.here.leads } in
        let takes : Takes graph k.via l = record { via = held.via; here = here } in
        inr (k.via, ((s.layer k.via).0 (in-seen k.via k.here.member), takes))

    new : (l : ℕ) → Through left graph.holders l → Reach graph (suc n) g l
    new l via = step l via (rooms.sound via.via (in_near via.via via.here.member))

    to : (l : ℕ) → In l seen → Reach graph (suc n) g l
    to l p = elim (ℕ_discrete (bit w.seen l) 1) [
      | yes e ↦ inl ((s.layer l).0 e)
      | no d ↦ new l (held.sound l (in-far l p d))
    ]

    from : (l : ℕ) → Reach graph (suc n) g l → In l seen
    from l (inl p) = old l ((s.layer l).1 p)
    from l (inr (k, (p, t))) = all-shut t.via l (room_shut k t.via ((s.layer k).1 p) t.here.member) t.here.leads

    pub spread : Spread graph g (n + 1) (record { seen = seen; front = front; windows = windows })
    spread = record {
      layer = rw (add-one n) (λ l. (to l, from l));
      within = λ l. omega (arith, joined l);
      looked = λ i v p z m. room_shut i v (omega (arith, joined i, bit-lt w.seen i)) m;
      shut = all-shut;
      few = λ v p. s.few v (omega (arith, shuts v, bit-lt w.windows v));
    }

  -- ---- the end: nothing is in front any more

  module _ (n : ℕ) (w : Wave) (s : Spread graph g n w) (empty : w.front ≡ 0) where
    all_seen : (r l : ℕ) → Reach graph r g l → In l w.seen
    all_seen zero l e = (s.layer l).1 (go n l e)
      where
        go : (n l : ℕ) → g ≡ l → Reach graph n g l
        go zero l e = e
        go (suc n) l e = inl (go n l e)
    all_seen (suc r) l (inl p) = all_seen r l p
    all_seen (suc r) l (inr (k, (p, t))) =
        s.shut t.via l (s.looked k t.via (all_seen r k p) (rw empty (bit-zero k)) t.here.member) t.here.leads

    pub last : (l : ℕ) → In l w.seen ↔ Reached graph g l
    last l = (λ p. (n, (s.layer l).0 p), λ p. all_seen p.0 l p.1)

    -- one move more reaches nobody
    pub still : Spread graph g (n + 1) w
    still = record {
      layer = rw (add-one n) (λ l. (λ p. inl ((s.layer l).0 p), λ p. all_seen (suc n) l p));
      within = s.within;
      looked = s.looked;
      shut = s.shut;
      few = s.few;
    }

-- ---- what comes in front

pub grown : (w : Wave) (far front seen windows : ℕ) → ((l : ℕ) → bit front l ≡ bit far l - bit w.seen l)
    → ((l : ℕ) → bit seen l ≡ max (bit w.seen l) (bit front l)) → Grown w (record { seen = seen; front = front; windows = windows })
grown w far front seen windows fresh joined = record {
  more = λ l. omega (arith, joined l);
  new = λ l p. (omega (arith, fresh l, bit-lt far l), omega (arith, joined l, bit-lt seen l));
}

-- ---- it ends: each move but the last reaches a seat that was not seen

-- how far the search has to go at the most
abbrev pub ahead : Wave → ℕ
ahead w = 32 - size_of w.seen + min 1 w.front

pub ahead-less : (before after : Wave) → Grown before after → 0 < before.front → after.front < 2 ^ 32
    → ahead after < ahead before
ahead-less before after grown here fits =
    elim (dec_lt 0 after.front) [
      | no z ↦ omega (arith, within-size before.seen after.seen grown.more, size-le after.seen)
      | yes p ↦
          let l = count_trailing_zeros 32 after.front in
          let low : Lowest after.front l = lowest-is after.front p fits in
          let new = grown.new l low.here in
          let less = within-less before.seen after.seen l low.small grown.more (omega (arith, new.0, new.1)) in
          omega (arith, less, size-le after.seen)
    ]

-- so after n moves nothing is in front, or more than n seats were seen
abbrev pub Growing : ℕ → Wave → Type 0
Growing n w = (w.front ≡ 0) ⊎ (n < size_of w.seen)

pub growing-first : (graph : Graph) (g : ℕ) (w : Wave) → g < 32 → Spread graph g 0 w → Growing 0 w
growing-first graph g w l s =
    let here : In g w.seen = (s.layer g).1 refl in
    inr (omega (arith, within-less 0 w.seen g l (λ k. omega (arith, bit-zero k)) (omega (arith, bit-zero g, here))))

pub growing-next : (n : ℕ) (before after : Wave) → Grown before after → Growing n before → 0 < before.front → after.front < 2 ^ 32
    → Growing (n + 1) after
growing-next n before after grown (inl z) here fits = absurd (omega arith)
growing-next n before after grown (inr h) here fits =
    elim (dec_lt 0 after.front) [
      | no z ↦ inl (omega arith)
      | yes p ↦ inr (omega (arith, ahead-less before after grown here fits, size-le after.seen))
    ]
