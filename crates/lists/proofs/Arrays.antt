-- Arrays that a loop fills from the front. The loop's invariant is `Filled`; `filled-first`, `filled_next` and `filled-end` are its
-- entry, its turn and its end; where every entry is known, the laws behind these say what the whole array is.
use mathlib.Core.List.{List}
use mathlib.Core.Path.{◌≡◌, refl, sym, ◌∙◌, ap}
use Prim.Native.Nat.{ℕ, zero, suc, ◌+◌, ◌≤◌, ◌<◌, zero-le}
use native.Mathlib.Decide.{ℕ_discrete, dec_lt}
use native.Mathlib.Omega.{arith}
use lib.ListN.{length, get_or, set, replicate, length-set, get_or-replicate}
use lib.Seq.{get_or-set_same, get_or-set_other, ext_get_or}
use Rattle.fairness.specs.Leximin.{table}
pub use Rattle.lists.specs.Arrays.{Filled}
use Rattle.lists.proofs.Tables.{table_is, table_at, table-out}

-- an array of n times d
pub replicate-at : {A : Type 0} (n i : ℕ) (d : A) → get_or (replicate n d) i d ≡ d
replicate-at zero i d = refl
replicate-at (suc n) zero d = refl
replicate-at (suc n) (suc i) d = replicate-at n i d

-- zeros
pub zeros-at : (n i : ℕ) → ◌≡◌ {A = ℕ} (get_or (replicate n 0) i 0) 0
zeros-at n i = replicate-at {A = ℕ} n i 0

module _ {A : Type 0} {P : ℕ → A → Type 0} {d : A} {n m : ℕ} {old : List A} where
  -- before the first turn
  pub filled-first : length old ≡ n → m ≤ n → Filled P d n m old 0 old
  filled-first e h =
      record { room = h; within = zero-le; size = e; entry = λ k l. absurd (omega arith); rest = λ k l. refl }

  -- a turn
  pub filled_next : {i : ℕ} {xs : List A} {x : A} → Filled P d n m old i xs → i < m → P i x → Filled P d n m old (i + 1) (set xs i x)
  filled_next {i} {xs} {x} f l p =
      let inside : i < length xs = omega (arith, f.room, f.size) in
      record {
        room = f.room;
        within = omega arith;
        size = length-set xs i x ∙ f.size;
        entry = λ k h. elim (ℕ_discrete k i) [
          | yes e ↦ rw (e, get_or-set_same xs i x d inside) p
          | no e ↦ rw (get_or-set_other xs i k x d e) (f.entry k (omega arith))
        ];
        rest = λ k h. get_or-set_other xs i k x d (λ e. omega arith) ∙ f.rest k (omega arith);
      }

  -- each of the m entries
  pub filled_at : {i : ℕ} {xs : List A} → Filled P d n m old i xs → m ≤ i → (k : ℕ) → k < m → P k (get_or xs k d)
  filled_at f l k h = f.entry k (omega arith)

-- ---- where each entry is to be f of its index

module _ {A : Type 0} {d : A} {n : ℕ} {old : List A} where
  -- an array is copied
  pub filled_copy : {ys : List A} {i : ℕ} {xs : List A} → Filled (λ k x. x ≡ get_or ys k d) d n n old i xs → n ≤ i → length ys ≡ n → xs ≡ ys
  filled_copy {ys} {i} {xs} h l e =
      ext_get_or d xs ys (h.size ∙ sym e) (λ k lk. h.entry k (omega (arith, h.size)))

-- ---- as many of c elements as there is room for, in an array that was blank: entry k is made by p of the element g k, and past these of z

-- m is the lesser of c and n
abbrev pub Least : ℕ → ℕ → ℕ → Type 0
Least c n m = (m ≤ c) × (m ≤ n) × ((k : ℕ) → k < n → k < c → k < m)

module _ {A B : Type 0} (p : A → B) (z : A) (g : ℕ → A) {d : B} {n m : ℕ} where
  pub filled-made : (c : ℕ) {i : ℕ} {xs : List B}
      → Filled (λ k x. x ≡ p (g k)) d n m (replicate n (p z)) i xs → m ≤ i → Least c n m → xs ≡ table n (λ k. p (get_or (table c g) k z))
  filled-made c {i} {xs} f l least =
      table_is n (λ k. p (get_or (table c g) k z)) xs d f.size (λ k lk. go k lk (dec_lt k c))
    where
      go : (k : ℕ) → k < n → Dec (k < c) → get_or xs k d ≡ p (get_or (table c g) k z)
      go k lk (yes h) = filled_at f l k (least.2 k lk h) ∙ ap p (sym (table_at c g k z h))
      go k lk (no h) =
          let in_rest : i ≤ k = omega (arith, f.within, least.0) in
          f.rest k in_rest ∙ get_or-replicate n k (p z) d lk ∙ ap p (sym (table-out c g k z (omega arith)))
