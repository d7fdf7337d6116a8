-- All that is said of an instance and a sheet goes by their used entries alone. Assumes nothing.
use mathlib.Core.Path.{◌≡◌, sym, ap, ap₂, ◌∙◌}
use mathlib.Core.Bool.{Bool, true}
use mathlib.Core.List.{List}
use Prim.Native.Nat.{ℕ, ◌+◌, ◌<◌}
use native.Mathlib.Omega.{arith}
use Rattle.fairness.specs.Sums.{sum}
use Rattle.fairness.specs.Instance.{Instance, Sheet, Feasible, Wasteful, placed, total, height}
use Rattle.fairness.specs.Leximin.{NoHigher, no_higher?, sort, table, levels, profile}
use Rattle.fairness.specs.Exchange.{Move, Possible, Path, Exchange, improves, ties_wrongly, improves_at, ties_at, Settled}
use Rattle.fairness.proofs.Sums.{sum-eq}
use Rattle.fairness.proofs.Lists.{All-map, table_same}
use Rattle.fairness.proofs.Wanted as Wanted

-- two instances, and a sheet of each, have the same used entries
pub record Alike (I J : Instance) (S T : Sheet) : Type 0 where
  pub seats : I.seats ≡ J.seats
  pub windows : I.windows ≡ J.windows
  pub caps : (i j : ℕ) → i < I.seats → j < I.windows → I.cap i j ≡ J.cap i j
  pub supplies : (j : ℕ) → j < I.windows → I.supply j ≡ J.supply j
  pub weights : (i : ℕ) → i < I.seats → I.weight i ≡ J.weight i
  pub bases : (i : ℕ) → i < I.seats → I.base i ≡ J.base i
  pub positions : (i : ℕ) → i < I.seats → I.position i ≡ J.position i
  pub cells : (i j : ℕ) → i < I.seats → j < I.windows → S i j ≡ T i j

pub alike-back : (I J : Instance) (S T : Sheet) → Alike I J S T → Alike J I T S
alike-back I J S T a = record {
  seats = sym a.seats;
  windows = sym a.windows;
  caps = λ i j li lj. sym (a.caps i j (seat i li) (window j lj));
  supplies = λ j lj. sym (a.supplies j (window j lj));
  weights = λ i li. sym (a.weights i (seat i li));
  bases = λ i li. sym (a.bases i (seat i li));
  positions = λ i li. sym (a.positions i (seat i li));
  cells = λ i j li lj. sym (a.cells i j (seat i li) (window j lj));
}
  where
    seat : (i : ℕ) → i < J.seats → i < I.seats
    seat i l = omega (arith, a.seats)

    window : (j : ℕ) → j < J.windows → j < I.windows
    window j l = omega (arith, a.windows)

module _ (I J : Instance) (S T : Sheet) (a : Alike I J S T) where
  alike-placed : (j : ℕ) → j < I.windows → placed I S j ≡ placed J T j
  alike-placed j lj =
      sum-eq I.seats (λ i. S i j) (λ i. T i j) (λ i li. a.cells i j li lj)
      ∙ ap (λ (n : ℕ). sum n (λ i. T i j)) a.seats

  alike-total : (i : ℕ) → i < I.seats → total I S i ≡ total J T i
  alike-total i li =
      sum-eq I.windows (S i) (T i) (λ j lj. a.cells i j li lj) ∙ ap (λ (m : ℕ). sum m (T i)) a.windows

  alike-height : (i : ℕ) → i < I.seats → height I S i ≡ height J T i
  alike-height i li = ap₂ (λ (x y : ℕ). x + y) (a.bases i li) (alike-total i li)

  pub alike-profile : profile I S ≡ profile J T
  unfolding profile levels
  alike-profile =
      ap (sort NoHigher no_higher?)
      (table_same I.seats (λ i. (height I S i, I.weight i)) (λ i. (height J T i, J.weight i))
      (λ i li. ap₂ (λ (h w : ℕ). (h, w)) (alike-height i li) (a.weights i li))
      ∙ ap (λ (n : ℕ). table n (λ i. (height J T i, J.weight i))) a.seats)

  alike-possible : (m : Move) → Possible I S m → Possible J T m
  alike-possible m p = record {
    in_window = omega (arith, a.windows, p.in_window);
    in_giver = omega (arith, a.seats, p.in_giver);
    in_taker = omega (arith, a.seats, p.in_taker);
    has = omega (arith, p.has, a.cells m.giver m.window p.in_giver p.in_window);
    room = omega (
      arith,
      p.room,
      a.cells m.taker m.window p.in_taker p.in_window,
      a.caps m.taker
          m.window p.in_taker p.in_window,
    );
  }

  alike-path : (g l : ℕ) (ms : List Move) → Path I S g l ms → Path J T g l ms
  alike-path g l ms p = record {
    linked = p.linked;
    possible = All-map (Possible I S) (Possible J T) alike-possible ms p.possible;
    distinct = p.distinct;
  }

  module _ (g l : ℕ) (lg : g < I.seats) (ll : l < I.seats) where
    alike-improves : improves_at I S g l ≡ improves_at J T g l
    unfolding improves_at
    alike-improves =
        ap₂ (λ (x y : ℕ). improves x (I.weight g) y (I.weight l)) (alike-height g lg) (alike-height l ll)
        ∙ ap₂ (λ (v w : ℕ). improves (height J T g) v (height J T l) w) (a.weights g lg) (a.weights l ll)

    alike-ties : ties_at I S g l ≡ ties_at J T g l
    unfolding ties_at
    alike-ties =
        ap₂ (λ (x y : ℕ). ties_wrongly x (I.weight g) (I.position g) y (I.weight l) (I.position l))
        (alike-height g lg) (alike-height l ll)
        ∙ ap₂ (λ (v w : ℕ). ties_wrongly (height J T g) v (I.position g) (height J T l) w (I.position l))
        (a.weights g lg) (a.weights l ll)
        ∙ ap₂ (λ (p q : ℕ). ties_wrongly (height J T g) (J.weight g) p (height J T l) (J.weight l) q)
        (a.positions g lg) (a.positions l ll)

  -- an exchange of the one is an exchange of the other
  alike-exchange : (test test' : ℕ → ℕ → Bool) → ((g : ℕ) → test g g ≡ true → ⊥) →
      ((g l : ℕ) → g < I.seats → l < I.seats → test g l ≡ test' g l) → Exchange I S test → Exchange J T test'
  alike-exchange test test' apart e x =
      let g = x.receiver in
      let l = x.donor in
      let ends = Wanted.path-ends I S g l x.moves x.path (Wanted.not-self I S test apart g l x.wanted) in
      record {
        receiver = g;
        donor = l;
        moves = x.moves;
        path = alike-path g l x.moves x.path;
        wanted = sym (e g l ends.in-receiver ends.in-donor) ∙ x.wanted;
      }

  pub alike-feasible : Feasible I S → Feasible J T
  alike-feasible f = record {
    within = λ i j li lj.
        let ki : i < I.seats = omega (arith, a.seats) in
        let kj : j < I.windows = omega (arith, a.windows) in
        omega (arith, f.within i j ki kj, a.cells i j ki kj, a.caps i j ki kj);
    fits = λ j lj.
        let kj : j < I.windows = omega (arith, a.windows) in
        omega (arith, f.fits j kj, alike-placed j kj, a.supplies j kj);
  }

  pub alike-wasteful : Wasteful I S → Wasteful J T
  alike-wasteful w =
      let i = w.seat in
      let j = w.window in
      let li = w.in_seat in
      let lj = w.in_window in
      record {
        window = j;
        seat = i;
        in_window = omega (arith, a.windows, lj);
        in_seat = omega (arith, a.seats, li);
        left = omega (arith, w.left, alike-placed j lj, a.supplies j lj);
        room = omega (arith, w.room, a.cells i j li lj, a.caps i j li lj);
      }

pub alike-settled : (I J : Instance) (S T : Sheet) → Alike I J S T → Settled I S → Settled J T
alike-settled I J S T a h =
    let b = alike-back I J S T a in
    record {
      feasible = alike-feasible I J S T a h.feasible;
      full = λ w. h.full (alike-wasteful J I T S b w);
      fair = λ x. h.fair (alike-exchange J I T S b (improves_at J T) (improves_at I S) (Wanted.improves-apart J T)
          (alike-improves J I T S b) x);
      ordered = λ x. h.ordered (alike-exchange J I T S b (ties_at J T) (ties_at I S) (Wanted.ties-apart J T)
          (alike-ties J I T S b) x);
    }
