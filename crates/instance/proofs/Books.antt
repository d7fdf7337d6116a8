-- A loop that works out each seat's weight, base and place, and what its end tells of the book that is in memory. Assumes nothing.
use mathlib.Core.Path.{◌≡◌, refl, ap, ap₂, sym, ◌∙◌}
use mathlib.Core.Bool.{Bool, true, false, cond}
use mathlib.Core.List.{List, []}
use Rattle.std.specs.Prelude.{Option, None, Some}
use Prim.Native.Nat.{ℕ, ◌-◌, ◌≤◌, ◌<◌}
use native.Mathlib.Omega.{arith}
use lib.ListN.{get_or, replicate}
use Rattle.lists.proofs.Arrays.{Filled, filled_at, zeros-at}
use Rattle.fairness.specs.Classes.{class_weights}
use Rattle.fairness.specs.Leximin.{table}
use Rattle.fairness.proofs.Weights.{get_d-inside}
use Rattle.model.specs.Lowest.{when, value_or}
use Rattle.model.specs.Book.{Grid, seats, windows, place_from, balance_of, weights_of, weight_in, instance_of}
use Rattle.model.proofs.Places.{place-apart}
use Rattle.model.proofs.Weights.{weight-as}
use Rattle.dayfile.specs.Bounds.{Fit, BalancesFit}
use Rattle.dayfile.specs.Memory.{sized, book_in}
use Rattle.dayfile.specs.declared.Book as Memory
use Rattle.dayfile.proofs.Tables.{sized-length, sized-at}
use Rattle.dayfile.proofs.Used.{class-in, supply_in, cap-in}
use Rattle.dayfile.proofs.Held.{seats-in, windows-in}
use Rattle.dayfile.proofs.Theorems.{in-force-fits}
use Rattle.instance.specs.declared.Terms.{Terms}
use Rattle.instance.specs.Terms.{balances_in_force, weights_in_force, Told, Ranged}

-- ---- a balance in force is that of the book

pub balance-in : (m : Memory.Book) (caps : Grid) (i : ℕ) → i < m.seats → balance_of (book_in m caps) i ≡ get_or (balances_in_force m) i 0
unfolding book_in
balance-in m caps i l = go m.has_balances
  where
    go : (t : Bool) → get_or (value_or (when t (sized m.seats m.balances)) []) i 0 ≡ get_or (cond t m.balances (replicate 32 0)) i 0
    go true = sized-at m.seats m.balances i l
    go false = sym (zeros-at 32 i)

-- ---- the weights in force are those of the book

pub weights-in : (m : Memory.Book) (caps : Grid) → weights_of (book_in m caps) ≡ sized 8 (weights_in_force m)
unfolding book_in sized table
weights-in m caps = go m.has_weights
  where
    go : (t : Bool) → value_or (when t (sized 8 m.weights)) class_weights ≡ sized 8 (cond t m.weights class_weights)
    go true = refl
    go false = refl

weight-in : (m : Memory.Book) (caps : Grid) (k : ℕ) → k < 8 → get_or (weights_of (book_in m caps)) k 1 ≡ get_or (weights_in_force m) k 0
weight-in m caps k l =
    let w : List ℕ = weights_in_force m in
    ap (λ (ws : List ℕ). get_or ws k 1) (weights-in m caps)
    ∙ get_d-inside (sized 8 w) 1 0 k (omega (arith, sized-length 8 w))
    ∙ sized-at 8 w k l

-- ---- the used entries of a book in memory that fits are in range

module _ (m : Memory.Book) (caps : Grid) (fit : Fit (book_in m caps)) where
  pub seats_most : m.seats ≤ 32
  seats_most = omega (arith, fit.seats_high, seats-in m caps)

  pub windows_most : m.windows ≤ 24
  windows_most = omega (arith, fit.windows_high, windows-in m caps)

  pub class-ranged : (i : ℕ) → i < m.seats → (1 ≤ get_or m.classes i 0) × (get_or m.classes i 0 ≤ 8)
  class-ranged i l =
      let inside : i < seats (book_in m caps) = omega (arith, seats-in m caps) in
      (omega (arith, class-in m caps i l, fit.class_low i inside), omega (arith, class-in m caps i l, fit.class_high i inside))

  supply-ranged : (j : ℕ) → j < m.windows → get_or m.supplies j 0 ≤ 4095
  supply-ranged j l =
      let inside : j < windows (book_in m caps) = omega (arith, windows-in m caps) in
      omega (arith, supply_in m caps j l, fit.supply_high j inside)

  balance-ranged : (i : ℕ) → i < m.seats → get_or (balances_in_force m) i 0 ≤ 50000
  balance-ranged i l =
      omega (arith, balance-in m caps i l, go (book_in m caps).balances fit.balances_fit (omega (arith, seats-in m caps)))
    where
      go : (o : Option (List ℕ)) → BalancesFit (seats (book_in m caps)) o → i < seats (book_in m caps) → get_or (value_or o []) i 0 ≤ 50000
      go None h k = omega arith
      go (Some xs) h k = h.1 i k

  weight-ranged : (k : ℕ) → k < 8 → (1 ≤ get_or (weights_in_force m) k 0) × (get_or (weights_in_force m) k 0 ≤ 1000)
  weight-ranged k l =
      let e = ap (λ (ws : List ℕ). get_or ws k 0) (weights-in m caps) ∙ sized-at 8 (weights_in_force m) k l in
      let r = (in-force-fits (book_in m caps) fit).1 k l in (omega (arith, e, r.0), omega (arith, e, r.1))

  -- a seat's weight is the one in force of its class
  seat-weight : (other : Grid) (i : ℕ) → i < m.seats
      → weight_in (weights_of (book_in m other)) (get_or (book_in m other).classes i 0)
      ≡ get_or (weights_in_force m) (get_or m.classes i 0 - 1) 0
  seat-weight other i l =
      let class : ℕ = get_or m.classes i 0 in
      let r = class-ranged i l in
      let k : class - 1 < 8 = omega (arith, r.0, r.1) in
      let e = weight-in m other (class - 1) k in
      ap (weight_in (weights_of (book_in m other))) (class-in m other i l)
      ∙ weight-as (weights_of (book_in m other)) class (omega (arith, e, (weight-ranged (class - 1) k).0))
      ∙ e

-- ---- the loop

-- the first k weights, bases and places in the order from a first seat on are known; before the loop they were ws₀, bs₀ and ps₀
abbrev pub Known : Memory.Book → (first : ℕ) (ws₀ bs₀ ps₀ : List ℕ) (k : ℕ) (ws bs ps : List ℕ) → Type 0
Known m first ws₀ bs₀ ps₀ k ws bs ps =
    Filled (λ i w. w ≡ get_or (weights_in_force m) (get_or m.classes i 0 - 1) 0) 0 32 m.seats ws₀ k ws
    × Filled (λ i b. b ≡ get_or (balances_in_force m) i 0) 0 32 m.seats bs₀ k bs
    × Filled (λ i p. p ≡ place_from first m.seats i) 0 32 m.seats ps₀ k ps

-- ---- its end

module _ (m : Memory.Book) (k first : ℕ) (ws₀ bs₀ ps₀ ws bs ps : List ℕ) (l : m.seats ≤ k) (known : Known m first ws₀ bs₀ ps₀ k ws bs ps)
    (named : first ≡ value_or (when m.has_first m.first) 1) where
  abbrev made : Terms
  made = record { seats = m.seats; windows = m.windows; supplies = m.supplies; weights = ws; bases = bs; positions = ps }

  weight-at : (i : ℕ) → i < m.seats → get_or ws i 0 ≡ get_or (weights_in_force m) (get_or m.classes i 0 - 1) 0
  weight-at = filled_at known.0 l

  base-at : (i : ℕ) → i < m.seats → get_or bs i 0 ≡ get_or (balances_in_force m) i 0
  base-at = filled_at known.1 l

  position_at : (i : ℕ) → i < m.seats → get_or ps i 0 ≡ place_from first m.seats i
  position_at = filled_at known.2 l

  weight-fits : (caps : Grid) → Fit (book_in m caps) → (i : ℕ) → i < m.seats → (1 ≤ get_or ws i 0) × (get_or ws i 0 ≤ 1000)
  weight-fits caps fit i li =
      let c = class-ranged m caps fit i li in
      let r = weight-ranged m caps fit (get_or m.classes i 0 - 1) (omega (arith, c.0, c.1)) in
      (omega (arith, weight-at i li, r.0), omega (arith, weight-at i li, r.1))

  pub ranged : (caps : Grid) → Fit (book_in m caps) → Ranged made
  ranged caps fit = record {
    seats_most = seats_most m caps fit;
    windows_most = windows_most m caps fit;
    supplies_most = supply-ranged m caps fit;
    weights_least = λ i li. (weight-fits caps fit i li).0;
    weights_most = λ i li. (weight-fits caps fit i li).1;
    bases_most = λ i li. omega (arith, base-at i li, balance-ranged m caps fit i li);
    positions_differ = λ i j li lj e. place-apart first m.seats i j li lj (sym (position_at i li) ∙ e ∙ position_at j lj);
  }

  pub told : (fitting : Grid) → Fit (book_in m fitting) → (caps : Grid) → Told (instance_of (book_in m caps)) made caps
  unfolding instance_of book_in
  told fitting fit caps = record {
    seats_are = seats-in m caps;
    windows_are = windows-in m caps;
    caps_are = cap-in m caps;
    supplies_are = supply_in m caps;
    weights_are = λ i li. seat-weight m fitting fit caps i li ∙ sym (weight-at i li);
    bases_are = λ i li. balance-in m caps i li ∙ sym (base-at i li);
    positions_are = λ i li. ap₂ (λ (x n : ℕ). place_from x n i) (sym named) (seats-in m caps) ∙ sym (position_at i li);
  }
