-- The better of two hand-ins: what is handed back, and that it passes where either of the two does. Assumes nothing.
use mathlib.Core.Path.{◌≡◌, refl, sym, subst, ◌∙◌}
use mathlib.Core.List.{List, []}
use mathlib.Core.Logic.{◌⊎◌, inl, inr}
use Rattle.std.specs.Prelude.{None}
use Prim.Native.Nat.{ℕ, ◌+◌, ◌≤◌}
use native.Mathlib.Omega.{arith}
use lib.ListN.{length}
use Rattle.fairness.specs.Leximin.{Level, NoHigher, Equal, Higher, SameProfile, Better}
use Rattle.fairness.proofs.Theorems.{same-higher-lower, higher-not-lower, same-transitive}
use Rattle.model.specs.Book.{Book, Grid, SheetOf, Lawful, cell, instance_of}
use Rattle.model.specs.Fair.{profile_of, HighestList}
use Rattle.model.proofs.Theorems as model
use Rattle.dayfile.specs.Layout.{book_of, seats_in, windows_in, grid_at, sheet_start, sheet_size, sheet_body, marked_sheet}
use Rattle.dayfile.specs.Table.{Refusal, first_of, read_lines, marker_lines, sheet_lines, pair_lines, better_lines, moves_room}
use Rattle.dayfile.specs.Outcome.{turned_away, answer, read_file, NoneHolds, FirstHolds}
use Rattle.dayfile.proofs.Lines.{none-holds, none-first-of, none-parts}
use Rattle.dayfile.proofs.Sound.{Sound, sound}
use Rattle.dayfile.proofs.Bodies.{sheet-inside, sheet-grid}
use Rattle.dayfile.proofs.Pairs.{SameParts, one-book, parts-profile, parts-sheet, parts-lawful, parts-highest, parts-itself, parts-back}
use Rattle.answers.specs.declared.Marking.{Marking}
use Rattle.answers.specs.Answers.{told}
use Rattle.lawful.proofs.Accepted.{has-entry, has-sheet-of, accepted-sheet, accepted-lawful}
use Rattle.marker.specs.Marking.{Marks, Passing}
use Rattle.choice.specs.declared.Choice.{Choice}
use Rattle.choice.specs.declared.Choice.TheVariants.{Refused, First, Second}
use Rattle.better.specs.Choice.{Side, first, second, other, file_on, list_of, Chosen, side_of, handed_back, HandsBack}
use Rattle.better.proofs.Choosing.{first-not-second}
use Rattle.demands.specs.Demands.{Marked, ChosenOf}
use Rattle.demands.proofs.Fairness.{passes_exactly, passing_highest}

-- ---- what is handed back

-- by the side that a choice answers
handed-on : (c : Choice) (f g : List ℕ) (side : Side) → side_of c ≡ answer side → handed_back c f g ≡ sheet_body (file_on side f g)
handed-on (Refused file n p) f g side e = absurd (let z : ◌≡◌ {A = ℕ} 0 1 = cc in omega arith)
handed-on First f g first e = refl
handed-on First f g second e = absurd (first-not-second cc)
handed-on Second f g first e = absurd (first-not-second cc)
handed-on Second f g second e = refl

nothing-of : (c : Choice) (f g : List ℕ) (q : Refusal) → side_of c ≡ turned_away q → handed_back c f g ≡ []
nothing-of (Refused file n p) f g q e = refl
nothing-of First f g q e = absurd (let z : ◌≡◌ {A = ℕ} 0 1 = cc in omega arith)
nothing-of Second f g q e = absurd (let z : ◌≡◌ {A = ℕ} 0 1 = cc in omega arith)

pub handed-back : (f g part : List ℕ) → HandsBack f g part →
    ((q : Refusal) → FirstHolds (better_lines f g) q → part ≡ [])
    × (NoneHolds (better_lines f g) → (side : Side) × (Chosen f g side × (part ≡ sheet_body (file_on side f g))))
handed-back f g part h = (
  λ q holds. h.part_is ∙ nothing-of h.choice f g q ((h.chooses.defined.refuses q).1 holds),
  λ free.
      let x = h.chooses.defined.gives free in
      (x.0, (x.1.1, h.part_is ∙ handed-on h.choice f g x.0 x.1.0)),
)

-- ---- the lists

marker-free : (f : List ℕ) → first_of (sheet_lines f) ≡ None → NoneHolds (marker_lines f)
unfolding sheet_lines
marker-free f passed = none-holds (marker_lines f) (none-parts (read_lines f) (marker_lines f) passed).1

sound-of : (f : List ℕ) → first_of (sheet_lines f) ≡ None → Sound f
unfolding sheet_lines
sound-of f passed = sound f (none-parts (read_lines f) (marker_lines f) passed).0

-- a file with a lawful sheet, and what the marker says of it
marked-of : (f before after : List ℕ) (r : Marking) → first_of (sheet_lines f) ≡ None → moves_room ≤ length before →
    Marks f before after r →
    Marked f (book_of f) (marked_sheet f) before after r
unfolding sheet_lines read_file
marked-of f before after r passed long marks =
    let sheet = has-sheet-of f (marker-free f passed) in
    record {
      accepted = rw ((none-parts (read_lines f) (marker_lines f) passed).0, sheet.1) refl;
      lawful = accepted-lawful f (marker-free f passed);
      long = long;
      marks = marks;
    }

sheet-of : (f : List ℕ) → first_of (sheet_lines f) ≡ None → SheetOf (book_of f) (marked_sheet f) × Lawful (book_of f) (marked_sheet f)
sheet-of f passed = (accepted-sheet f (marker-free f passed), accepted-lawful f (marker-free f passed))

-- where a sheet passes, so does another of its book whose list is not lower
passes-too : (b : Book) (s t : Grid) → SheetOf b t → Lawful b t → (xs : List Level) → HighestList b xs →
    Equal NoHigher (profile_of b s) xs →
    (Higher NoHigher (profile_of b s) (profile_of b t) → ⊥) → (Higher NoHigher (profile_of b t) (profile_of b s) → ⊥) →
    Equal NoHigher (profile_of b t) xs
passes-too b s t shape lawful xs top same not-above not-below = go (same-higher-lower (instance_of b) (cell t) (cell s))
  where
    go : SameProfile (instance_of b) (cell t) (cell s)
        ⊎ (Better (instance_of b) (cell t) (cell s) ⊎ Better (instance_of b) (cell s) (cell t)) → Equal NoHigher (profile_of b t) xs
    go (inl e) =
        rw top.its_list at
        (same-transitive (instance_of b) (model.proper b) (cell t) (cell s) (cell top.sheet) e (rw top.its_list same))
    go (inr (inl e)) = absurd (not-below e)
    go (inr (inr e)) = absurd (not-above e)

-- the same of two files
module _ (h k : List ℕ) (lawful-h : first_of (sheet_lines h) ≡ None) (lawful-k : first_of (sheet_lines k) ≡ None)
    (one : SameParts (book_of h) (book_of k)) (not_lower : Higher NoHigher (list_of k) (list_of h) → ⊥) where
  abbrev back : SameParts (book_of k) (book_of h)
  back = parts-back (book_of h) (book_of k) one

  shape : SheetOf (book_of h) (marked_sheet k)
  shape = parts-sheet (book_of k) (book_of h) back (marked_sheet k) (sheet-of k lawful-k).0

  lawful : Lawful (book_of h) (marked_sheet k)
  lawful = parts-lawful (book_of k) (book_of h) back (marked_sheet k) (sheet-of k lawful-k).1

  list_is : profile_of (book_of h) (marked_sheet k) ≡ list_of k
  list_is = parts-profile (book_of h) (book_of k) one (marked_sheet k)

  passes_on : (before after before' after' : List ℕ) (r r' : Marking) → moves_room ≤ length before → moves_room ≤ length before' →
      Marks h before after r → Passing (told r) → Marks k before' after' r' → Passing (told r')
  passes_on before after before' after' r r' long long' marks passing marks' =
      let top = model.highest-list-exists (book_of h) in
      go top.0 top.1
    where
      m : Marked h (book_of h) (marked_sheet h) before after r
      m = marked-of h before after r lawful-h long marks

      go : (xs : List Level) → HighestList (book_of h) xs → Passing (told r')
      go xs top =
          (passes_exactly k (book_of k) (marked_sheet k) before' after' r' (marked-of k before' after' r' lawful-k long' marks') xs
          (parts-highest (book_of h) (book_of k) one xs top)).1
          (subst (λ (ys : List Level). Equal NoHigher ys xs) list_is
          (passes-too (book_of h) (marked_sheet h) (marked_sheet k) shape lawful xs top
          ((passes_exactly h (book_of h) (marked_sheet h) before after r m xs top).0 passing)
          (passing_highest h (book_of h) (marked_sheet h) before after r m passing (marked_sheet k) shape lawful)
          (subst (λ (ys : List Level). Higher NoHigher ys (list_of h) → ⊥) (sym list_is) not_lower)))

-- ---- the one that is chosen

-- a list is not higher than itself
not-above : (h : List ℕ) → Higher NoHigher (list_of h) (list_of h) → ⊥
not-above h p = higher-not-lower (instance_of (book_of h)) (cell (marked_sheet h)) (cell (marked_sheet h)) p p

module _ (f g : List ℕ) (side : Side) (c : ChosenOf f g side) where
  parts : (first_of (sheet_lines f) ≡ None) × ((first_of (sheet_lines g) ≡ None) × SameParts (book_of f) (book_of g))
  unfolding better_lines pair_lines
  parts =
      let all = none-parts (sheet_lines f) _ (none-first-of (better_lines f g) c.free) in
      let rest = none-parts (sheet_lines g) (pair_lines f g) all.1 in
      (all.0, (rest.0, one-book f g (none-holds (pair_lines f g) rest.1).0))

  lawful-on : (any : Side) → first_of (sheet_lines (file_on any f g)) ≡ None
  lawful-on first = parts.0
  lawful-on second = parts.1.0

  on-one-book : (any : Side) → SameParts (book_of (file_on any f g)) (book_of (file_on (other any) f g))
  on-one-book first = parts.1.1
  on-one-book second = parts-back (book_of f) (book_of g) parts.1.1

module _ (f g : List ℕ) where
  pub inside : (side : Side) → ChosenOf f g side → sheet_start (file_on side f g) + sheet_size (file_on side f g)
      ≤ length (file_on side f g)
  unfolding sheet_lines
  inside side c = sheet-inside (file_on side f g) (sound-of (file_on side f g) (lawful-on f g side c side))

  pub same_sheet : (side : Side) → ChosenOf f g side →
      grid_at (sheet_body (file_on side f g)) 0 (seats_in (file_on side f g)) (windows_in (file_on side f g))
      ≡ marked_sheet (file_on side f g)
  same_sheet side c =
      let h = file_on side f g in
      let free = lawful-on f g side c side in
      let entry = has-entry h (marker-free h free) in
      sheet-grid h (sound-of h free) entry.0 entry.1

  pub not_lower : (side : Side) → ChosenOf f g side →
      Higher NoHigher (list_of (file_on side f g)) (list_of (file_on (other side) f g)) → ⊥
  not_lower first c h = first-not-second (c.chosen.1 h)
  not_lower second c h =
      let one = parts-profile (book_of f) (book_of g) (on-one-book f g second c first) (marked_sheet f) in
      higher-not-lower (instance_of (book_of g)) (cell (marked_sheet f)) (cell (marked_sheet g)) (rw one at (c.chosen.0 refl)) (rw one at h)

  pub passes : (side either : Side) → ChosenOf f g side →
      (before after before' after' : List ℕ) (r r' : Marking) → moves_room ≤ length before → moves_room ≤ length before' →
      Marks (file_on either f g) before after r → Passing (told r) → Marks (file_on side f g) before' after' r' → Passing (told r')
  passes side either c =
      passes_on (file_on either f g) (file_on side f g) (lawful-on f g side c either) (lawful-on f g side c side)
      (go side either c).0 (go side either c).1
    where
      go : (side either : Side) → ChosenOf f g side →
          SameParts (book_of (file_on either f g)) (book_of (file_on side f g))
          × (Higher NoHigher (list_of (file_on side f g)) (list_of (file_on either f g)) → ⊥)
      go first first c = (parts-itself (book_of f), not-above f)
      go first second c = (on-one-book f g first c second, not_lower first c)
      go second first c = (on-one-book f g second c first, not_lower second c)
      go second second c = (parts-itself (book_of g), not-above g)
