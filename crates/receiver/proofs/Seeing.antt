-- The search for the first receiver: what holds of the sets, and that each step keeps it. Assumes nothing.
use mathlib.Core.Path.{◌≡◌, refl}
use mathlib.Core.Logic.{inl, inr}
use Prim.Native.Nat.{ℕ, zero, suc, ◌+◌, ◌-◌, ◌^◌, ◌<◌, ◌≤◌, min, max}
use native.Mathlib.Decide.{ℕ_discrete, dec_lt}
use native.Mathlib.Omega.{arith}
use lib.ListN.{length}
use lib.Count.{count_trailing_zeros}
use Rattle.masks.specs.Sets.{bit, In, Within, count_below, size_of, Inserted, Removed, Lowest, Full}
use Rattle.masks.proofs.Laws.{bit-lt, bit-zero, size-le, removed-shrinks}
use Rattle.masks.proofs.Machine.{lowest-is}
use Rattle.reach.specs.declared.Graph.{Graph}
use Rattle.reach.specs.Graphs.{set_at, Takes, Reach, Reached}
use Rattle.reach.proofs.Members.{at_small}

-- the members of two sets that share none
disjoint-count : (n a b both : ℕ) → ((k : ℕ) → bit both k ≡ max (bit a k) (bit b k)) → ((k : ℕ) → bit a k + bit b k ≤ 1)
    → count_below n both ≡ count_below n a + count_below n b
unfolding count_below
disjoint-count zero a b both m d = refl
disjoint-count (suc n) a b both m d = omega (arith, m n, d n, disjoint-count n a b both m d)

-- What was seen was reached from g, and g wants none of it. The windows are those that nobody who was seen has looked
-- at, but for those in front. Who holds a credit in a window that was looked at and is not left was seen.
pub record Seen (graph : Graph) (g wanted seen front windows left : ℕ) : Type 0 where
  pub start : In g seen
  pub within : Within front seen
  pub only : (l : ℕ) → In l seen → Reached graph g l
  pub fails : (l : ℕ) → In l seen → bit wanted l ≡ 0
  pub led : (i w : ℕ) → In i seen → bit front i ≡ 0 → In w (set_at graph.rooms i) → bit windows w ≡ 0
  pub shut : (w l : ℕ) → bit windows w ≡ 0 → bit left w ≡ 0 → In l (set_at graph.holders w) → In l seen
  pub few : (w : ℕ) → 24 ≤ w → bit windows w + bit left w ≡ 0

-- what holds while windows are left in which seat k has room; the sets grow alike from what they were at the first window
pub record Looking (graph : Graph) (g wanted k seen₀ front₀ seen front windows left : ℕ) : Type 0 where
  pub so_far : Seen graph g wanted seen front windows left
  pub here : In k seen
  pub room : (w : ℕ) → In w left → In w (set_at graph.rooms k)
  pub alike : size_of front + size_of seen₀ ≡ size_of front₀ + size_of seen

module _ (graph : Graph) (g wanted : ℕ) where
  -- ---- the loop over the seats that are reached

  pub first : (start windows : ℕ) → length graph.holders ≡ 24 → Inserted 0 g start → Full 24 windows → bit wanted g ≡ 0
      → Seen graph g wanted start start windows 0
  first start windows long i all apart = record {
    start = i.here;
    within = λ k. omega arith;
    only = λ l p. (0, is-g l p);
    fails = λ l p. let e = is-g l p in rw (← e) apart;
    led = λ a w p q m. absurd (omega arith);
    shut = λ w l o z p. absurd (omega (arith, all.inside w (omega (arith, at_small graph.holders w l p))));
    few = λ w h. omega (arith, all.outside w h, bit-zero w);
  }
    where
      is-g : (l : ℕ) → In l start → g ≡ l
      is-g l p = elim (ℕ_discrete g l) [ yes e ↦ e | no d ↦ absurd (omega (arith, i.others l (λ e. d (omega arith)), bit-zero l)) ]

  -- the next seat comes out of the front, and the windows in which it has room are left to look at
  module _ (seen front windows k front' left windows' : ℕ) (s : Seen graph g wanted seen front windows 0) (low : Lowest front k)
      (r : Removed front k front') (rest : (w : ℕ) → bit left w ≡ min (bit (set_at graph.rooms k) w) (bit windows w))
      (shuts : (w : ℕ) → bit windows' w ≡ bit windows w - bit left w) where
    pub taken : Looking graph g wanted k seen front' seen front' windows' left
    taken = record {
      so_far = record {
        start = s.start;
        within = λ i. elim (ℕ_discrete i k) [
          | yes e ↦ rw e (omega (arith, r.here))
          | no d ↦ omega (arith, r.others i d, s.within i)
        ];
        only = s.only;
        fails = s.fails;
        led = λ i w p q m. elim (ℕ_discrete i k) [
          | yes e ↦ omega (arith, rw e at m, rest w, shuts w, bit-lt windows w)
          | no d ↦ omega (arith, s.led i w p (omega (arith, r.others i d)) m, shuts w)
        ];
        shut = λ w l o z p. s.shut w l (omega (arith, shuts w)) (bit-zero w) p;
        few = λ w h. omega (arith, s.few w h, shuts w, rest w);
      };
      here = omega (arith, low.here, s.within k, bit-lt seen k);
      room = λ w p. omega (arith, rest w, bit-lt (set_at graph.rooms k) w);
      alike = omega arith;
    }

    pub taken-less : (seen'' front'' : ℕ) → size_of front'' + size_of seen ≡ size_of front' + size_of seen''
        → 32 + size_of front'' - size_of seen'' < 32 + size_of front - size_of seen
    taken-less seen'' front'' e = omega (arith, removed-shrinks front k front' low.small low.here r, size-le seen, size-le seen'')

  -- nothing is in front any more: all that g reaches was seen
  module _ (seen front windows : ℕ) (s : Seen graph g wanted seen front windows 0) (empty : front ≡ 0) where
    all_seen : (r l : ℕ) → Reach graph r g l → In l seen
    all_seen zero l e = rw (← e) s.start
    all_seen (suc r) l (inl p) = all_seen r l p
    all_seen (suc r) l (inr (k, (p, t))) =
        let shut = s.led k t.via (all_seen r k p) (rw empty (bit-zero k)) t.here.member in
        s.shut t.via l shut (bit-zero t.via) t.here.leads

    pub last : (l : ℕ) → Reached graph g l → In l wanted → ⊥
    last l p w = omega (arith, s.fails l (all_seen p.0 l p.1))

  -- ---- the loop over windows

  module _ (k seen₀ front₀ seen front windows left : ℕ) (s : Looking graph g wanted k seen₀ front₀ seen front windows left) where
    -- no window is left
    pub looked : left ≡ 0 → Seen graph g wanted seen front windows 0
    looked z = rw z at s.so_far

    -- the next window comes out of those that are left
    pub window-small : (w : ℕ) → Lowest left w → w < 24
    window-small w low =
        elim (dec_lt w 24) [ yes h ↦ h | no h ↦ absurd (omega (arith, s.so_far.few w (omega arith), low.here)) ]

    module _ (w : ℕ) (low : Lowest left w) (left' new both : ℕ) (r : Removed left w left')
        (fresh : (i : ℕ) → bit new i ≡ bit (set_at graph.holders w) i - bit seen i)
        (shared : (i : ℕ) → bit both i ≡ min (bit new i) (bit wanted i)) where
      reaches : (l : ℕ) → In l new → Reached graph g l
      reaches l p =
          let way = s.so_far.only k s.here in
          let held : In l (set_at graph.holders w) = omega (arith, fresh l, bit-lt (set_at graph.holders w) l) in
          let takes : Takes graph k l = record { via = w; here = record { member = s.room w low.here; leads = held } } in
          (suc way.0, inr (k, (way.1, takes)))

      -- a seat that g wants comes in
      pub found : 0 < both → both < 2 ^ 32 → (l : ℕ) × (Reached graph g l × In l wanted)
      found pos fits =
          let l = count_trailing_zeros 32 both in
          let in_both : In l both = (lowest-is both pos fits).here in
          (l, (reaches l (omega (arith, shared l, bit-lt new l)), omega (arith, shared l, bit-lt wanted l)))

      module _ (seen' front' : ℕ) (f : (i : ℕ) → bit front' i ≡ max (bit front i) (bit new i))
          (n : (i : ℕ) → bit seen' i ≡ max (bit seen i) (bit new i)) (empty : both ≡ 0) where
        was : Seen graph g wanted seen front windows left
        was = s.so_far

        old : (l : ℕ) → In l seen → In l seen'
        old l p = omega (arith, n l, bit-lt seen' l)

        unwanted : (l : ℕ) → In l new → bit wanted l ≡ 0
        unwanted l p = omega (arith, shared l, rw empty at (shared l), bit-zero l)

        left_less : (v : ℕ) → bit left' v ≤ bit left v
        left_less v = elim (ℕ_discrete v w) [ yes e ↦ rw e (omega (arith, r.here)) | no d ↦ omega (arith, r.others v d) ]

        joined-size : size_of front' + size_of seen ≡ size_of front + size_of seen'
        joined-size =
            let held : (i : ℕ) → bit (set_at graph.holders w) i < 2 = bit-lt (set_at graph.holders w) in
            omega (
              arith,
              disjoint-count 32 front new front' f (λ i. omega (arith, fresh i, was.within i, held i, bit-lt seen i)),
              disjoint-count 32 seen new seen' n (λ i. omega (arith, fresh i, held i, bit-lt seen i)),
            )

        joined-seen : Seen graph g wanted seen' front' windows left'
        joined-seen = record {
          start = old g was.start;
          within = λ i. omega (arith, f i, n i, was.within i);
          only = λ l p. elim (ℕ_discrete (bit seen l) 1) [
            | yes e ↦ was.only l e
            | no d ↦ reaches l (omega (arith, n l, bit-lt seen l, bit-lt new l))
          ];
          fails = λ l p. elim (ℕ_discrete (bit seen l) 1) [
            | yes e ↦ was.fails l e
            | no d ↦ unwanted l (omega (arith, n l, bit-lt seen l, bit-lt new l))
          ];
          led = λ i v p q m. was.led i v (omega (arith, n i, f i)) (omega (arith, f i)) m;
          shut = λ v l o z p. elim (ℕ_discrete v w) [
            | yes e ↦ omega (arith, rw e at p, n l, fresh l, bit-lt seen' l, bit-lt seen l)
            | no d ↦ old l (was.shut v l o (omega (arith, r.others v d)) p)
          ];
          few = λ v h. omega (arith, was.few v h, left_less v);
        }

        -- what comes in is seen and in front
        pub joined : Looking graph g wanted k seen₀ front₀ seen' front' windows left'
        joined = record {
          so_far = joined-seen;
          here = old k s.here;
          room = λ v p. s.room v (omega (arith, left_less v, bit-lt left v));
          alike = omega (arith, joined-size, s.alike);
        }
