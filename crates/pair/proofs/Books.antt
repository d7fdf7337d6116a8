-- Two books in memory are the same exactly where their used entries are. Assumes nothing.
use mathlib.Core.Path.{◌≡◌, refl, sym, ap, subst₂, ◌∙◌}
use mathlib.Core.Bool.{Bool, true, false, true≢false}
use mathlib.Core.Logic.{◌↔◌}
use mathlib.Core.List.{List, []}
use Prim.Native.Nat.{ℕ}
use native.Mathlib.Omega.{arith}
use lib.ListN.{length, get_or}
use Rattle.fairness.specs.Leximin.{table}
use Rattle.lists.proofs.Tables.{table_same}
use Rattle.model.specs.Book.{Grid, cell, seats, balance_of, balances_of}
use Rattle.model.proofs.Tests.{not-true}
use Rattle.sheet.specs.declared.Sheet.{Sheet}
use Rattle.sheet.specs.Sheets.{credit, grid_of}
use Rattle.sheet.proofs.Cells.{credit-is}
use Rattle.dayfile.specs.Table.{same_book}
use Rattle.dayfile.specs.Memory.{sized, sized_grid, book_in}
use Rattle.dayfile.specs.declared.Book as Memory
use Rattle.pair.specs.Same.{SameUpTo, SameCells, SameLists}
use Rattle.dayfile.proofs.Pairs.{SameParts, same_parts, parts_same, same-balance}
use Rattle.dayfile.proofs.Tables.{sized-at}
use Rattle.dayfile.proofs.Held.{seats-in, windows-in}
use Rattle.dayfile.proofs.Used.{class-in, supply_in, cap-in}
use Rattle.instance.specs.Terms.{weights_in_force}
use Rattle.instance.proofs.Books.{balance-in, weights-in}

-- the same numbers in both
abbrev SameNumbers : Memory.Book → Grid → Memory.Book → Grid → Type 0
SameNumbers a caps b caps' = SameLists a b × SameCells a.seats a.windows (cell caps) (cell caps')

module _ (a : Memory.Book) (caps : Grid) (b : Memory.Book) (caps' : Grid) where
  sized_same : (n m : ℕ) (xs ys : List ℕ) → n ≡ m → SameUpTo n xs ys → sized n xs ≡ sized m ys
  unfolding sized
  sized_same n m xs ys e h = table_same n (λ i. get_or xs i 0) (λ i. get_or ys i 0) h ∙ ap (λ (k : ℕ). sized k ys) e

  grid-same : SameNumbers a caps b caps' → sized_grid a.seats a.windows caps ≡ sized_grid b.seats b.windows caps'
  unfolding sized_grid
  grid-same h =
      table_same a.seats (λ i. sized a.windows (get_or caps i [])) (λ i. sized b.windows (get_or caps' i []))
      (λ i l. sized_same a.windows b.windows (get_or caps i []) (get_or caps' i []) h.0.windows (h.1 i l))
      ∙ ap (λ (k : ℕ). sized_grid k b.windows caps') h.0.seats

  balances-same : SameLists a b → balances_of (book_in a caps) ≡ balances_of (book_in b caps')
  unfolding balances_of
  balances-same h =
      let n = seats-in a caps in
      let m = seats-in b caps' in
      let e = h.seats in
      table_same (seats (book_in a caps)) (balance_of (book_in a caps)) (balance_of (book_in b caps'))
      (λ i l. balance-in a caps i (omega arith) ∙ h.balances i (omega arith) ∙ sym (balance-in b caps' i (omega arith)))
      ∙ ap (λ (k : ℕ). table k (balance_of (book_in b caps'))) (n ∙ e ∙ sym m)

  same_in : SameNumbers a caps b caps' → SameParts (book_in a caps) (book_in b caps')
  unfolding book_in
  same_in h = record {
    classes = sized_same a.seats b.seats a.classes b.classes h.0.seats h.0.classes;
    supplies = sized_same a.windows b.windows a.supplies b.supplies h.0.windows h.0.supplies;
    caps = grid-same h;
    balances = balances-same h.0;
    weights = weights-in a caps ∙ sized_same 8 8 (weights_in_force a) (weights_in_force b) refl h.0.weights ∙ sym (weights-in b caps');
  }

  same_numbers : SameParts (book_in a caps) (book_in b caps') → SameNumbers a caps b caps'
  same_numbers h = (
    record {
      seats = n;
      windows = m;
      classes = λ i l. sym (class-in a caps i l) ∙ ap (λ (xs : List ℕ). get_or xs i 0) h.classes ∙ class-in b caps' i (omega (arith, n));
      supplies = λ j l.
          sym (supply_in a caps j l) ∙ ap (λ (xs : List ℕ). get_or xs j 0) h.supplies ∙ supply_in b caps' j (omega (arith, m));
      balances = λ i l.
          sym (balance-in a caps i l) ∙ same-balance (book_in a caps) (book_in b caps') h i (omega (arith, seats-in a caps))
          ∙ balance-in b caps' i (omega (arith, n));
      weights = λ k l.
          sym (sized-at 8 (weights_in_force a) k l)
          ∙ ap (λ (xs : List ℕ). get_or xs k 0) (sym (weights-in a caps) ∙ h.weights ∙ weights-in b caps')
          ∙ sized-at 8 (weights_in_force b) k l;
    },
    λ i li j lj.
        sym (cap-in a caps i j li lj) ∙ ap (λ (g : Grid). cell g i j) h.caps ∙ cap-in b caps' i j (omega (arith, n)) (omega (arith, m)),
  )
    where
      n : a.seats ≡ b.seats
      n = sym (seats-in a caps) ∙ ap length h.classes ∙ seats-in b caps'

      m : a.windows ≡ b.windows
      m = sym (windows-in a caps) ∙ ap length h.supplies ∙ windows-in b caps'

  -- the test of the table
  decided : (r : Bool) → ((r ≡ true) ↔ SameNumbers a caps b caps') → r ≡ same_book (book_in a caps) (book_in b caps')
  decided true h = sym (parts_same (book_in a caps) (book_in b caps') (same_in (h.0 refl)))
  decided false h =
      sym (not-true (same_book (book_in a caps) (book_in b caps'))
      (λ e. true≢false (sym (h.1 (same_numbers (same_parts (book_in a caps) (book_in b caps') e))))))

-- the same with caps that are rows
pub seen : (a : Memory.Book) (caps : Sheet) (b : Memory.Book) (caps' : Sheet) (r : Bool) →
    ((r ≡ true) ↔ (SameLists a b × SameCells a.seats a.windows (credit caps) (credit caps'))) →
    r ≡ same_book (book_in a (grid_of caps)) (book_in b (grid_of caps'))
seen a caps b caps' r h =
    decided a (grid_of caps) b (grid_of caps') r
    (subst₂ (λ (S T : ℕ → ℕ → ℕ). (r ≡ true) ↔ (SameLists a b × SameCells a.seats a.windows S T))
    (credit-is caps) (credit-is caps') h)
