-- A book and a lawful sheet in memory: what the search for waste and the search for exchange paths ask of them. Assumes nothing.
use mathlib.Core.Path.{◌≡◌, refl, subst}
use mathlib.Core.List.{List}
use Prim.Native.Nat.{ℕ, ◌+◌, ◌<◌}
use native.Mathlib.Omega.{arith}
use Rattle.fairness.specs.Instance.{Feasible}
use Rattle.model.specs.Book.{Book, Grid, cell, instance_of}
use Rattle.model.specs.Marks.{wasteful, seat_below, wasted_window, mark_of}
use Rattle.model.proofs.Lowest.{lowest-some}
use Rattle.dayfile.specs.Memory.{book_in, cells_in}
use Rattle.dayfile.specs.declared.Book as Memory
use Rattle.dayfile.proofs.Held.{seats-in, windows-in}
use Rattle.instance.specs.declared.Terms.{Terms}
use Rattle.instance.specs.Terms.{instance_in, Told, Shows, Ranged, Small}
use Rattle.instance.proofs.Told.{small-told, shown-feasible}
use Rattle.waste.specs.declared.Waste.{Waste}
use Rattle.waste.specs.declared.Waste.TheVariants.{Nowhere, At}
use Rattle.answers.specs.declared.Marking.{Marking}
use Rattle.answers.specs.declared.Marking.TheVariants.{Wasteful}
use Rattle.waste.specs.Wastes.{Tells}
use Rattle.marks.specs.Steps.{fair_mark, MarkedAs, Markable}
use Rattle.dayfile.proofs.Used.{cell_in}
use Rattle.marks.proofs.Fair.{marked-as}

module _ (m : Memory.Book) (caps sheet : Grid) (h : Markable m caps sheet) where
  -- the numbers that tell the book
  module _ (t : Terms) (told : Told (instance_of (book_in m caps)) t caps) where
    pub shows : Shows t (cell (cells_in m sheet)) sheet
    unfolding instance_of
    shows i j li lj =
        cell_in m sheet i j (omega (arith, told.seats_are, seats-in m caps)) (omega (arith, told.windows_are, windows-in m caps))

    pub searchable : Ranged t → Small t caps × Feasible (instance_in t caps) (cell sheet)
    searchable ranged = (
      small-told (book_in m caps) t caps h.fit told ranged,
      shown-feasible t caps (instance_of (book_in m caps)) told (cell (cells_in m sheet)) sheet shows h.lawful,
    )

  -- a window and a seat that are wasted are small numbers
  pub wasted-small : (j i : ℕ) → Tells (book_in m caps) (cells_in m sheet) (At j i) → (j < 24) × (i < 32)
  unfolding wasted_window seat_below
  wasted-small j i w =
      let window = (lowest-some _ _ j w.0).below in
      let seat = (lowest-some _ _ i w.1).below in
      (omega (arith, window, h.fit.windows_high), omega (arith, seat, h.fit.seats_high))

-- ---- the mark, by what the search for waste answers

module _ (b : Book) (s : Grid) where
  -- an answer that is known
  pub tells : {r w : Waste} → Tells b s r → r ≡ w → Tells b s w
  tells h e = subst (λ (x : Waste). Tells b s x) e h

  is-wasteful : (j i : ℕ) → Tells b s (At j i) → mark_of b s ≡ wasteful j i
  unfolding mark_of
  is-wasteful j i w = rw (w.0, w.1) refl

  is-fair : Tells b s Nowhere → mark_of b s ≡ fair_mark b s
  unfolding mark_of fair_mark
  is-fair w = rw w refl

  pub waste-marked : (j i : ℕ) → Tells b s (At j i) → (before : List ℕ) →
      MarkedAs b s (mark_of b s) before before (Wasteful (j + 1) (i + 1))
  waste-marked j i w before = marked-as (is-wasteful j i w) (record { says = refl; buffer = refl })

  pub full-marked : Tells b s Nowhere → (before after : List ℕ) (r : Marking) →
      MarkedAs b s (fair_mark b s) before after r → MarkedAs b s (mark_of b s) before after r
  full-marked w before after r h = marked-as (is-fair w) h
