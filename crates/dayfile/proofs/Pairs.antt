-- Two files: where line 17 does not hold, what it compares is the same, and so is all that is said of sheets by it. Assumes nothing.
use mathlib.Core.Path.{◌≡◌, refl, sym, ap, ap₂, ◌∙◌, fun_ext}
use mathlib.Core.Bool.{Bool, true, true≢false}
use mathlib.Core.List.{List, [], ◌∷◌}
use Rattle.std.specs.Prelude.{None, Some}
use Prim.Native.Nat.{ℕ, ◌<◌}
use native.Mathlib.Omega.{arith}
use lib.Dec.{eqb}
use lib.ListN.{length, get_or, replicate}
use borrow.Author.Tests.{eqb-true, eq-eqb}
use Rattle.fairness.specs.Classes.{class_weights}
use Rattle.fairness.specs.Leximin.{Level, table}
use Rattle.fairness.proofs.Alike.{Alike, alike-profile, alike-feasible}
use Rattle.lists.proofs.Arrays.{zeros-at}
use Rattle.lists.proofs.Tables.{table_at}
use Rattle.model.specs.Book.{Book, Grid, SheetOf, Lawful, cell, seats, windows, with_first, first_seat, place_from, balance_of, balances_of}
use Rattle.model.specs.Book.{with_balances, with_weights, weights_of, weight_in, instance_of}
use Rattle.model.specs.Fair.{profile_of, HighestList}
use Rattle.model.proofs.Tests.{and-true}
use Rattle.model.proofs.Theorems.{first-profile, first-lawful}
use Rattle.dayfile.specs.Layout.{book_of}
use Rattle.dayfile.specs.Table.{alike, same_book, line17}
use Rattle.dayfile.proofs.Sound.{kept}

-- ---- lists that are alike

module _ {A : Type 0} (test : A → A → Bool) where
  pub alike_same : ((x y : A) → test x y ≡ true → x ≡ y) → (xs ys : List A) → alike test xs ys ≡ true → xs ≡ ys
  unfolding alike
  alike_same only [] [] e = refl
  alike_same only [] (y ∷ ys) e = absurd (true≢false (sym e))
  alike_same only (x ∷ xs) [] e = absurd (true≢false (sym e))
  alike_same only (x ∷ xs) (y ∷ ys) e =
      let both = (and-true (test x y) (alike test xs ys)).0 e in
      ap₂ (λ z zs. z ∷ zs) (only x y both.0) (alike_same only xs ys both.1)

  pub alike-itself : ((x : A) → test x x ≡ true) → (xs : List A) → alike test xs xs ≡ true
  unfolding alike
  alike-itself itself [] = refl
  alike-itself itself (x ∷ xs) = rw (itself x, alike-itself itself xs) refl

eqb-itself : (x : ℕ) → eqb x x ≡ true
eqb-itself x = eq-eqb x x refl

-- ---- books

-- what line 17 compares
pub record SameParts (b c : Book) : Type 0 where
  pub classes : b.classes ≡ c.classes
  pub supplies : b.supplies ≡ c.supplies
  pub caps : b.caps ≡ c.caps
  pub balances : balances_of b ≡ balances_of c
  pub weights : weights_of b ≡ weights_of c

pub same_parts : (b c : Book) → same_book b c ≡ true → SameParts b c
unfolding same_book
same_parts b c e =
    let first = (and-true (alike eqb b.classes c.classes) _).0 e in
    let rest = (and-true (alike eqb b.supplies c.supplies) _).0 first.1 in
    let more = (and-true (alike (alike eqb) b.caps c.caps) _).0 rest.1 in
    let last = (and-true (alike eqb (balances_of b) (balances_of c)) _).0 more.1 in
    record {
      classes = alike_same eqb eqb-true _ _ first.0;
      supplies = alike_same eqb eqb-true _ _ rest.0;
      caps = alike_same (alike eqb) (alike_same eqb eqb-true) _ _ more.0;
      balances = alike_same eqb eqb-true _ _ last.0;
      weights = alike_same eqb eqb-true _ _ last.1;
    }

pub parts_same : (b c : Book) → SameParts b c → same_book b c ≡ true
unfolding same_book
parts_same b c h =
    rw (
      h.balances,
      h.weights,
      h.classes,
      h.supplies,
      h.caps,
      alike-itself eqb eqb-itself c.classes,
      alike-itself eqb eqb-itself c.supplies,
      alike-itself (alike eqb) (alike-itself eqb eqb-itself) c.caps,
      alike-itself eqb eqb-itself (balances_of c),
      alike-itself eqb eqb-itself (weights_of c),
    ) refl

-- a book without balances and one with zeros are one book
pub zeros-one-book : (b : Book) → same_book (with_balances None b) (with_balances (Some (replicate (seats b) 0)) b) ≡ true
unfolding balances_of
zeros-one-book b =
    parts_same _ _ (record {
      classes = refl;
      supplies = refl;
      caps = refl;
      balances = ap (table (seats b)) (fun_ext (λ i. sym (zeros-at (seats b) i)));
      weights = refl;
    })

-- and so are a book without weights of its own and one with paper 01's
pub built-in-one-book : (b : Book) → same_book (with_weights None b) (with_weights (Some class_weights) b) ≡ true
unfolding balances_of
built-in-one-book b = parts_same _ _ (record { classes = refl; supplies = refl; caps = refl; balances = refl; weights = refl })

-- ---- what is said of a sheet by these parts alone

pub parts-itself : (b : Book) → SameParts b b
parts-itself b = record { classes = refl; supplies = refl; caps = refl; balances = refl; weights = refl }

pub parts-back : (b c : Book) → SameParts b c → SameParts c b
parts-back b c h =
    record {
      classes = sym h.classes;
      supplies = sym h.supplies;
      caps = sym h.caps;
      balances = sym h.balances;
      weights = sym h.weights;
    }

module _ (b c : Book) (h : SameParts b c) where
  pub parts-seats : seats b ≡ seats c
  parts-seats = ap length h.classes

  pub parts-windows : windows b ≡ windows c
  parts-windows = ap length h.supplies

  pub same-balance : (i : ℕ) → i < seats b → balance_of b i ≡ balance_of c i
  unfolding balances_of
  same-balance i l =
      sym (table_at (seats b) (balance_of b) i 0 l) ∙ ap (λ (xs : List ℕ). get_or xs i 0) h.balances
      ∙ table_at (seats c) (balance_of c) i 0 (omega (arith, parts-seats))

  -- but for their first seats the books have the same used numbers
  one-book-alike : (s : Grid) → Alike (instance_of (with_first c.first b)) (instance_of c) (cell s) (cell s)
  unfolding instance_of
  one-book-alike s =
      record {
        seats = parts-seats;
        windows = parts-windows;
        caps = λ i j li lj. ap (λ (g : Grid). cell g i j) h.caps;
        supplies = λ j lj. ap (λ (xs : List ℕ). get_or xs j 0) h.supplies;
        weights = λ i li. ap₂ (λ (ws xs : List ℕ). weight_in ws (get_or xs i 0)) h.weights h.classes;
        bases = same-balance;
        positions = λ i li. ap (λ (n : ℕ). place_from (first_seat c) n i) parts-seats;
        cells = λ i j li lj. refl;
      }

  pub parts-profile : (s : Grid) → profile_of b s ≡ profile_of c s
  parts-profile s = first-profile b c.first s ∙ alike-profile _ _ (cell s) (cell s) (one-book-alike s)

  pub parts-sheet : (s : Grid) → SheetOf b s → SheetOf c s
  parts-sheet s p = record { rows = p.rows ∙ parts-seats; row = λ i l. p.row i (omega (arith, parts-seats)) ∙ parts-windows }

  pub parts-lawful : (s : Grid) → Lawful b s → Lawful c s
  parts-lawful s l = alike-feasible _ _ (cell s) (cell s) (one-book-alike s) ((first-lawful b c.first s).0 l)

pub parts-highest : (b c : Book) → SameParts b c → (xs : List Level) → HighestList b xs → HighestList c xs
parts-highest b c h xs g =
    let back = parts-back b c h in
    record {
      sheet = g.sheet;
      a_sheet = parts-sheet b c h g.sheet g.a_sheet;
      lawful = parts-lawful b c h g.sheet g.lawful;
      its_list = parts-profile c b back g.sheet ∙ g.its_list;
      most = λ t shape law. rw (← parts-profile b c h t) (g.most t (parts-sheet c b back t shape) (parts-lawful c b back t law));
    }

-- ---- files

pub one-book : (f g : List ℕ) → line17 f g ≡ None → SameParts (book_of f) (book_of g)
unfolding line17
one-book f g e = same_parts (book_of f) (book_of g) (kept (same_book (book_of f) (book_of g)) 0 e)
