-- An array of blank cells that a loop has filled from the front, as far as there is room.
-- Assumes nothing.
use mathlib.Core.List.{List, []}
use mathlib.Core.Path.{◌≡◌, refl, subst}
use Prim.Native.Nat.{ℕ, ◌≤◌}
use native.Mathlib.Omega.{arith}
use lib.ListN.{get_or, replicate}
use Rattle.fairness.specs.Leximin.{table}
use Rattle.dayfile.specs.Memory.{sized, sized_grid, held}
use Rattle.lists.proofs.Arrays.{Filled, Least, filled-made}

-- m of the c elements of g, in an array of l cells
pub filled-blank : {A B : Type 0} (p : A → B) (z : A) (g : ℕ → A) {d : B} (c : ℕ) {n l m i : ℕ} {old xs : List B}
    → n ≡ l → old ≡ replicate l (p z) → Filled (λ k x. x ≡ p (g k)) d n m old i xs → m ≤ i → Least c n m
    → xs ≡ table l (λ k. p (get_or (table c g) k z))
filled-blank {B = B} p z g {d} c {n} {l} {m} {i} {old} {xs} e blank f h least =
    let sizes = subst (λ (k : ℕ). Filled (λ k x. x ≡ p (g k)) d k m old i xs) e f in
    let cells = subst (λ (o : List B). Filled (λ k x. x ≡ p (g k)) d l m o i xs) blank sizes in
    filled-made p z g c cells h (subst (λ (k : ℕ). Least c k m) e least)

-- blank rows are a grid of zeros
pub blank-rows : held [] ≡ replicate 32 (sized 24 [])
unfolding sized_grid table
blank-rows = refl

-- the loop's end: all m are filled
pub filled-whole : {A : Type 0} {P : ℕ → A → Type 0} {d : A} {n m i : ℕ} {old xs : List A}
    → Filled P d n m old i xs → m ≤ i → Filled P d n m old m xs
filled-whole f h =
    record {
      room = f.room;
      within = omega arith;
      size = f.size;
      entry = λ k l. f.entry k (omega arith);
      rest = λ k l. f.rest k (omega (arith, f.within));
    }
