-- What was found in memory is what line 22 says of the file. Assumes nothing.
use mathlib.Core.Path.{◌≡◌, refl, sym, ap, ◌∙◌}
use mathlib.Core.Bool.{Bool, not}
use mathlib.Core.List.{List, []}
use Rattle.std.specs.Prelude.{Option, None, Some}
use Prim.Native.Nat.{ℕ, ◌+◌, ◌*◌, ◌<◌}
use native.Mathlib.Omega.{arith}
use lib.Dec.{eqb}
use lib.ListN.{get_or}
use Rattle.model.specs.Lowest.{lowest, is_some}
use Rattle.model.specs.Book.{Book, Grid, cell, seats, all_zero, is_idle}
use Rattle.model.proofs.Lowest.{lowest-some}
use Rattle.dayfile.specs.declared.Book as Memory
use Rattle.dayfile.specs.Bounds.{Fit}
use Rattle.dayfile.specs.Layout.{start, book_of}
use Rattle.dayfile.specs.Table.{refuse, first_of, line22, idle_lines}
use Rattle.dayfile.specs.Memory.{book_in}
use Rattle.dayfile.proofs.Held.{seats-in, windows-in}
use Rattle.dayfile.proofs.Search.{same-search}
use Rattle.dayfile.proofs.Used.{cap-in, range-in}

-- the test of a row of caps
abbrev pub zero : Grid → ℕ → ℕ → Bool
zero caps windows i = all_zero windows (get_or caps i [])

-- of a book in memory it tells idle seats
zero-idle : (m : Memory.Book) (caps : Grid) (i : ℕ) → i < m.seats → zero caps m.windows i ≡ is_idle (book_in m caps) i
unfolding all_zero is_idle
zero-idle m caps i li =
    ap (λ (o : Option ℕ). not (is_some o))
    (same-search _ _ m.windows (λ j lj. ap (λ (x : ℕ). not (eqb x 0)) (sym (cap-in m caps i j li lj)))
    ∙ ap (λ (n : ℕ). lowest n (λ j. not (eqb (cell (book_in m caps).caps i j) 0))) (sym (windows-in m caps)))

-- a file whose book is in memory
module _ (f : List ℕ) (m : Memory.Book) (caps : Grid) (same : book_in m caps ≡ book_of f) (fit : Fit (book_in m caps)) where
  found-is : lowest m.seats (zero caps m.windows) ≡ lowest (seats (book_of f)) (is_idle (book_of f))
  found-is =
      same-search _ _ m.seats (zero-idle m caps)
      ∙ ap (λ (n : ℕ). lowest n (is_idle (book_in m caps))) (sym (seats-in m caps))
      ∙ ap (λ (b : Book). lowest (seats b) (is_idle b)) same

  -- a seat that was found is one of the book's, and line 22 tells its class
  pub idle-below : (i : ℕ) → lowest m.seats (zero caps m.windows) ≡ Some i → i < 32
  idle-below i e = omega (arith, (lowest-some m.seats _ i e).below, (range-in m caps fit).0)

  pub idle-told : (i : ℕ) → lowest m.seats (zero caps m.windows) ≡ Some i → (at : ℕ) → at ≡ start f 0 →
      Some (refuse 22 (at + 2 * i)) ≡ first_of (idle_lines f)
  unfolding idle_lines line22
  idle-told i e at q = rw (q, sym found-is ∙ e) refl

  -- none was found, and it holds nowhere
  pub none_idle : lowest m.seats (zero caps m.windows) ≡ None → None ≡ first_of (idle_lines f)
  unfolding idle_lines line22
  none_idle e = rw (sym found-is ∙ e) refl
