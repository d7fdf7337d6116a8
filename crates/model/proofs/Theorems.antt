-- The rules of paper 01 and demand 3: a mark passes exactly where the sheet's list is the book's highest. Stated with the definitions
-- of specs/ alone; the other files of this folder work towards them.
use mathlib.Core.Path.{◌≡◌, refl, sym, ◌∙◌, ap, fun_ext}
use mathlib.Core.Bool.{true, true≢false}
use mathlib.Core.Logic.{◌⊎◌, ◌↔◌}
use mathlib.Core.List.{List}
use Rattle.std.specs.Prelude.{Option, None, Some}
use Prim.Native.Nat.{ℕ, ◌+◌, ◌-◌, ◌≤◌, ◌<◌}
use lib.ListN.{get_or, replicate}
use Rattle.lists.proofs.Arrays.{zeros-at}
use Rattle.fairness.specs.Classes.{class_weights, weight_of}
use Rattle.fairness.specs.Instance.{Proper, Feasible, total}
use Rattle.fairness.specs.Leximin.{Level, NoHigher, Equal, Higher, table, levels, profile, Highest}
use Rattle.fairness.specs.Exchange.{Move, play_all, PlaysOut, Settled, improves, ties_wrongly, improves_at, ties_at}
use Rattle.fairness.proofs.Theorems as fairness
use Rattle.fairness.proofs.Standard as standard
use Rattle.model.specs.Book.{Book, Grid, SheetOf, Lawful, cell, seats, windows, with_first, first_seat, place_from}
use Rattle.model.specs.Book.{with_balances, balance_of, with_weights, weights_of, weight_in, instance_of, totals}
use Rattle.model.specs.Fair.{profile_of, HighestList, StandardSheet}
use Rattle.model.specs.Search.{Found, PathOn}
use Rattle.model.specs.Marks.{Mark, wasteful, improvable, tied, settled, Marked, mark_of, passes}
use Rattle.model.proofs.Grids.{table_same, grid_of, grid_of-cell, grid_of-shaped, shaped-same, agree-feasible, agree-profile}
use Rattle.model.proofs.Agree.{agree-settled, agree-standard}
use Rattle.model.proofs.Places.{place-apart}
use Rattle.model.proofs.Weights.{weight_least, weight-as, weight-built-in}
use Rattle.model.proofs.Instances.{same-mark}
use Rattle.model.proofs.Marks.{mark-means, waste-of}

module _ (b : Book) where
  -- every book has positive weights, and its seats have places of their own
  pub proper : Proper (instance_of b)
  unfolding instance_of
  proper =
      record {
        weights = λ i l. weight_least (weights_of b) (get_or b.classes i 0);
        positions = place-apart (first_seat b) (seats b);
      }

  -- ---- all sheets of functions, and all grids

  -- the used cells of a sheet of functions, as a grid
  in-grid : (T : ℕ → ℕ → ℕ) (i j : ℕ) → i < seats b → j < windows b → T i j ≡ cell (grid_of (seats b) (windows b) T) i j
  in-grid T i j li lj = sym (grid_of-cell (seats b) (windows b) T i j li lj)

  -- a feasible sheet of functions is on the used cells a lawful sheet of the book, with the same list
  as-grid : (T : ℕ → ℕ → ℕ) → Feasible (instance_of b) T →
      (t : Grid) × SheetOf b t × Lawful b t × (profile (instance_of b) T ≡ profile_of b t)
  unfolding instance_of
  as-grid T f = (
    grid_of (seats b) (windows b) T,
    grid_of-shaped (seats b) (windows b) T,
    agree-feasible (instance_of b) T (cell (grid_of (seats b) (windows b) T)) (in-grid T) f,
    agree-profile (instance_of b) T (cell (grid_of (seats b) (windows b) T)) (in-grid T),
  )

  -- a lawful sheet's list is the book's highest exactly where the sheet is highest among all feasible sheets of functions
  pub highest-list : (s : Grid) → SheetOf b s → Lawful b s → HighestList b (profile_of b s) ↔ Highest (instance_of b) (cell s)
  highest-list s shape lawful = (
    λ h. record { feasible = lawful; most = λ T f. most h T (as-grid T f) },
    λ h. record { sheet = s; a_sheet = shape; lawful = lawful; its_list = refl; most = λ t shape-t lawful-t. h.most (cell t) lawful-t },
  )
    where
      most : HighestList b (profile_of b s) → (T : ℕ → ℕ → ℕ) →
          (t : Grid) × SheetOf b t × Lawful b t × (profile (instance_of b) T ≡ profile_of b t) →
          Equal NoHigher (profile (instance_of b) T) (profile_of b s) ⊎ Higher NoHigher (profile (instance_of b) T) (profile_of b s)
      most h T t = rw t.3 (h.most t.0 t.1 t.2)

  -- ---- the highest list of a book

  -- its sheet is highest
  highest-sheet : (xs : List Level) (h : HighestList b xs) → Highest (instance_of b) (cell h.sheet)
  highest-sheet xs h = (highest-list h.sheet h.a_sheet h.lawful).0 (rw (← h.its_list) at h)

  -- every book has one
  pub highest-list-exists : (xs : List Level) × HighestList b xs
  highest-list-exists =
      let top = fairness.highest_exists (instance_of b) proper in
      let t = as-grid top.0 top.1.feasible in (
        profile_of b t.0,
        record {
          sheet = t.0;
          a_sheet = t.1;
          lawful = t.2;
          its_list = refl;
          most = λ u shape-u lawful-u. rw (← t.3) (top.1.most (cell u) lawful-u);
        },
      )

  -- and any two are equal
  pub highest-lists-equal : (xs ys : List Level) → HighestList b xs → HighestList b ys → Equal NoHigher xs ys
  highest-lists-equal xs ys h k =
      rw (← h.its_list, ← k.its_list)
      (fairness.highest-same (instance_of b) proper (cell h.sheet) (cell k.sheet) (highest-sheet xs h) (highest-sheet ys k))

  module _ (s : Grid) (shape : SheetOf b s) (lawful : Lawful b s) where
    -- ---- demand 3, for the mark that the rules compute

    -- what a mark says decides whether the sheet is highest
    marked-highest : (m : Mark) → Marked b s m → (passes m ≡ true) ↔ Highest (instance_of b) (cell s)
    marked-highest (wasteful j i) h = (
      λ e. absurd (true≢false (sym e)),
      λ top. absurd (((fairness.highest-iff (instance_of b) proper (cell s) lawful).0 top).0 (waste-of b s j i h)),
    )
    marked-highest (improvable f) h = (
      λ e. absurd (true≢false (sym e)),
      λ top. absurd (((fairness.highest-iff (instance_of b) proper (cell s) lawful).0 top).1 (record {
        receiver = f.receiver;
        donor = f.donor;
        moves = h.1.shortest.moves;
        path = h.1.shortest.path;
        wanted = h.1.passes;
      })),
    )
    marked-highest (tied f) h = (λ e. (fairness.highest-iff (instance_of b) proper (cell s) lawful).1 (h.0, h.1), λ top. refl)
    marked-highest settled h = (λ e. (fairness.highest-iff (instance_of b) proper (cell s) lawful).1 (h.0, h.1), λ top. refl)

    -- a lawful sheet passes exactly when its list is the highest list of the book
    pub passes-highest : (passes (mark_of b s) ≡ true) ↔ HighestList b (profile_of b s)
    passes-highest =
        let m = marked-highest (mark_of b s) ((mark-means b s (mark_of b s)).0 refl) in
        (λ e. (highest-list s shape lawful).1 (m.0 e), λ h. m.1 ((highest-list s shape lawful).0 h))

    -- that is, exactly when its list equals the highest of all lawful sheets
    pub passes-equal : (xs : List Level) → HighestList b xs → (passes (mark_of b s) ≡ true) ↔ Equal NoHigher (profile_of b s) xs
    passes-equal xs h = (
      λ e. highest-lists-equal (profile_of b s) xs (passes-highest.0 e) h,
      λ e. passes-highest.1 ((highest-list s shape lawful).1
          (fairness.same-highest (instance_of b) proper (cell s) (cell h.sheet) lawful (rw (← h.its_list) at e) (highest-sheet xs h))),
    )

    -- an improvable sheet's path, played move by move, is possible at every turn and ends in a lawful sheet with a higher list
    pub improvable-plays : (f : Found) → mark_of b s ≡ improvable f → (ms : List Move) → PathOn b s f.receiver f.donor ms →
        PlaysOut (instance_of b) (cell s) ms × Feasible (instance_of b) (play_all (cell s) ms)
        × Higher NoHigher (profile_of b s) (profile (instance_of b) (play_all (cell s) ms))
    improvable-plays f e ms path =
        let picked = ((mark-means b s (improvable f)).0 e).1 in
        let better = fairness.path-improves (instance_of b) proper (cell s) lawful f.receiver f.donor ms path picked.passes in
        (fairness.path-plays (instance_of b) (cell s) f.receiver f.donor ms path, better.0, better.1)

    -- a lawful sheet is marked settled exactly when it is settled
    pub settled-mark : (mark_of b s ≡ settled) ↔ Settled (instance_of b) (cell s)
    settled-mark = (
      λ e. let h = (mark-means b s settled).0 e in record { feasible = lawful; full = h.0; fair = h.1; ordered = h.2 },
      λ h. (mark-means b s settled).1 (h.full, h.fair, h.ordered),
    )

  -- all settled sheets of a book have the same totals
  pub settled-totals : (s t : Grid) → Settled (instance_of b) (cell s) → Settled (instance_of b) (cell t) → totals b s ≡ totals b t
  unfolding totals instance_of
  settled-totals s t h k =
      table_same (seats b) _ _ (λ i l. fairness.settled-totals (instance_of b) proper (cell s) (cell t) h k i l)

  -- and a book has a settled sheet
  pub settled-exists : (s : Grid) × SheetOf b s × Settled (instance_of b) (cell s)
  unfolding instance_of
  settled-exists =
      let top = fairness.settled-exists (instance_of b) proper in
      let t = grid_of (seats b) (windows b) top.0 in
      (t, grid_of-shaped (seats b) (windows b) top.0, agree-settled (instance_of b) top.0 (cell t) (in-grid top.0) top.1)

  -- every book has a standard sheet
  pub standard-exists : (s : Grid) × StandardSheet b s
  unfolding instance_of
  standard-exists =
      let top = standard.standard-exists (instance_of b) proper in
      let t = grid_of (seats b) (windows b) top.0 in
      let its-grid = agree-standard (instance_of b) top.0 (cell t) (in-grid top.0) top.1 in
      (t, record { a_sheet = grid_of-shaped (seats b) (windows b) top.0; standard = its-grid })

  -- and only one
  pub standard-one : (s t : Grid) → StandardSheet b s → StandardSheet b t → s ≡ t
  unfolding instance_of
  standard-one s t h k =
      shaped-same (seats b) (windows b) s t h.a_sheet k.a_sheet
      (standard.standard-one (instance_of b) (cell s) (cell t) h.standard k.standard)

-- ---- another seat named as the first

module _ (b : Book) (k : Option ℕ) where
  -- the order of the seat rule enters neither a sheet's list nor whether it is lawful
  pub first-profile : (s : Grid) → profile_of b s ≡ profile_of (with_first k b) s
  unfolding instance_of profile levels
  first-profile s = refl

  pub first-lawful : (s : Grid) → Lawful b s ↔ Lawful (with_first k b) s
  unfolding instance_of
  first-lawful s = (λ l. record { within = l.within; fits = l.fits }, λ l. record { within = l.within; fits = l.fits })

  -- nor the highest list
  pub first-highest : (xs : List Level) → HighestList b xs → HighestList (with_first k b) xs
  first-highest xs h =
      record {
        sheet = h.sheet;
        a_sheet = h.a_sheet;
        lawful = (first-lawful h.sheet).0 h.lawful;
        its_list = sym (first-profile h.sheet) ∙ h.its_list;
        most = λ t shape law. rw (← first-profile t) (h.most t shape ((first-lawful t).1 law));
      }

-- so it decides ties alone: the same sheets pass
pub first_passes : (b : Book) (k : Option ℕ) (s : Grid) → SheetOf b s → Lawful b s
    → (passes (mark_of b s) ≡ true) ↔ (passes (mark_of (with_first k b) s) ≡ true)
first_passes b k s shape lawful = (
  λ e. there.1 (rw (← first-profile b k s) (first-highest b k (profile_of b s) (here.0 e))),
  λ e. here.1 (rw (first-profile b k s) (first-highest (with_first k b) b.first (profile_of (with_first k b) s) (there.0 e))),
)
  where
    here : (passes (mark_of b s) ≡ true) ↔ HighestList b (profile_of b s)
    here = passes-highest b s shape lawful

    there : (passes (mark_of (with_first k b) s) ≡ true) ↔ HighestList (with_first k b) (profile_of (with_first k b) s)
    there = passes-highest (with_first k b) s shape ((first-lawful b k s).0 lawful)

-- ---- balances carried over, and weights

module _ (b : Book) (s : Grid) where
  -- a seat's balance plus its total
  abbrev height_of : ℕ → ℕ
  height_of i = balance_of b i + total (instance_of b) (cell s) i

  -- the weight in force of a seat's class
  abbrev weight_at : ℕ → ℕ
  weight_at i = weight_in (weights_of b) (get_or b.classes i 0)

  -- a seat's place in the order of the day
  abbrev place_at : ℕ → ℕ
  place_at i = place_from (first_seat b) (seats b) i

  -- a level is balance plus total, divided by weight
  pub levels-are : levels (instance_of b) (cell s) ≡ table (seats b) (λ i. (height_of i, weight_at i))
  unfolding instance_of levels
  levels-are = refl

  -- a path improves, and ties wrongly, by balance plus total of both its ends
  pub improves-by : (g l : ℕ) → improves_at (instance_of b) (cell s) g l ≡ improves (height_of g) (weight_at g) (height_of l) (weight_at l)
  unfolding instance_of improves_at
  improves-by g l = refl

  pub ties-by : (g l : ℕ) → ties_at (instance_of b) (cell s) g l
      ≡ ties_wrongly (height_of g) (weight_at g) (place_at g) (height_of l) (weight_at l) (place_at l)
  unfolding instance_of ties_at
  ties-by g l = refl

-- balances that are missing are zeros: the same instance, and so the same lists, settled sheets and standard sheet
pub missing-are-zeros : (b : Book) → instance_of (with_balances None b) ≡ instance_of (with_balances (Some (replicate (seats b) 0)) b)
unfolding instance_of
missing-are-zeros b =
    ap (λ (base : ℕ → ℕ). record {
      seats = seats b;
      windows = windows b;
      cap = cell b.caps;
      supply = λ j. get_or b.supplies j 0;
      weight = λ i. weight_in (weights_of b) (get_or b.classes i 0);
      base = base;
      position = place_from (first_seat b) (seats b);
    }) (fun_ext (λ i. sym (zeros-at (seats b) i)))

-- and every sheet has the same mark
pub missing-same-mark : (b : Book) (s : Grid) → mark_of (with_balances None b) s
    ≡ mark_of (with_balances (Some (replicate (seats b) 0)) b) s
missing-same-mark b s = same-mark (with_balances None b) (with_balances (Some (replicate (seats b) 0)) b) (missing-are-zeros b) s

-- All theorems are of any table of weights, and paper 01's is a case of it: a book without weights of its own is the same instance as with
-- paper 01's, so it has the same lists, settled sheets and standard sheet
pub built-in-a-case : (b : Book) → instance_of (with_weights None b) ≡ instance_of (with_weights (Some class_weights) b)
unfolding instance_of
built-in-a-case b = refl

-- every sheet has the same mark
pub built-in-same-mark : (b : Book) (s : Grid) → mark_of (with_weights None b) s ≡ mark_of (with_weights (Some class_weights) b) s
built-in-same-mark b s = same-mark (with_weights None b) (with_weights (Some class_weights) b) (built-in-a-case b) s

-- and each seat has the weight that paper 01 gives its class
pub built-in-weight : (b : Book) (i : ℕ) → (instance_of (with_weights None b)).weight i ≡ weight_of (get_or b.classes i 0)
unfolding instance_of
built-in-weight b i = weight-built-in (get_or b.classes i 0)

-- with weights of its own, a seat has the one that they give its class
pub own-weight : (b : Book) (ws : List ℕ) (i : ℕ) → 1 ≤ get_or ws (get_or b.classes i 0 - 1) 1
    → (instance_of (with_weights (Some ws) b)).weight i ≡ get_or ws (get_or b.classes i 0 - 1) 1
unfolding instance_of
own-weight b ws i l = weight-as ws (get_or b.classes i 0) l
