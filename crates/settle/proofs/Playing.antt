-- A loop that plays the moves of an exchange path in turn. Assumes nothing.
use mathlib.Core.Path.{◌≡◌, refl, ap, sym, ◌∙◌, subst, subst₂, fun_ext}
use mathlib.Core.List.{List, [], ◌∷◌}
use Prim.Native.Nat.{ℕ, suc, ◌+◌, ◌≤◌, ◌<◌}
use native.Mathlib.Nat.{le_trans}
use native.Mathlib.Numerals.{add-one}
use native.Mathlib.Omega.{arith}
use lib.ListN.{length, get_or, take, drop, drop_of_length-le, length-map, get_or-map}
use lib.Seq.{drop-cons}
use Rattle.fairness.specs.Instance.{Instance, Sheet}
use Rattle.fairness.specs.Exchange.{Move, play, play_all, PlaysOut}
use Rattle.model.specs.Book.{Grid, cell}
use Rattle.paths.specs.declared.Path.{Path}
use Rattle.paths.specs.Paths.{moves_of}
use Rattle.sheet.specs.declared.Move as stored
use Rattle.sheet.specs.declared.Sheet as memory
use Rattle.sheet.specs.Sheets.{credit, grid_of, move_of, Playable}
use Rattle.sheet.proofs.Cells.{credit-is}
use Rattle.sheet.proofs.Moves.{playable}
use Rattle.settle.specs.Playing.{AllPlayable, Plays}

-- moves that play out are playable, where the book fits the arrays
pub all-playable : (I : Instance) (S : Sheet) (ms : List Move) → I.seats ≤ 32 → I.windows ≤ 24
    → ((i j : ℕ) → i < I.seats → j < I.windows → I.cap i j ≤ 4095) → PlaysOut I S ms → AllPlayable S ms
all-playable I S [] a b caps p = tt
all-playable I S (m ∷ ms) a b caps p =
    let cap = caps m.taker m.window p.0.in_taker p.0.in_window in
    (playable I S m a b (le_trans cap (omega arith)) p.0, all-playable I (play S m) ms a b caps p.1)

-- the moves of a path in memory, as a list of its own
module _ (path : Path) (items : List stored.Move) (e : items ≡ take path.count path.moves) where
  pub items-long : length (moves_of path) ≡ length items
  items-long = rw e (length-map (take path.count path.moves) move_of)

  pub item-is : (i : ℕ) (d : stored.Move) → get_or (moves_of path) i (move_of d) ≡ move_of (get_or items i d)
  item-is i d = rw e (get_or-map move_of (take path.count path.moves) i d)

module _ (S : Sheet) (ms : List Move) where
  -- T is the sheet after the first k moves
  pub record Played (k : ℕ) (T : Sheet) : Type 0 where
    pub inside : k ≤ length ms
    pub able : AllPlayable T (drop k ms)
    pub same : play_all T (drop k ms) ≡ play_all S ms

  pub first : AllPlayable S ms → Played 0 S
  first able = record { inside = omega arith; able = able; same = refl }

  module _ (k : ℕ) (T : Sheet) (played : Played k T) (l : k < length ms) (d m : Move) (e : get_or ms k d ≡ m) where
    rest : drop k ms ≡ m ∷ drop (suc k) ms
    rest = drop-cons ms k d l ∙ ap (λ (x : Move). x ∷ drop (suc k) ms) e

    able-next : AllPlayable T (m ∷ drop (suc k) ms)
    able-next = rw rest at played.able

    pub this : Playable T m
    this = able-next.0

    pub next : (U : Sheet) → ((i j : ℕ) → U i j ≡ play T m i j) → Played (k + 1) U
    next U q = rw (add-one k, after) (record {
      inside = l;
      able = able-next.1;
      same = ap (play_all T) (sym rest) ∙ played.same;
    })
      where
        after : U ≡ play T m
        after = fun_ext (λ i. fun_ext (λ j. q i j))

  pub last : (k : ℕ) (T : Sheet) → Played k T → length ms ≤ k → (i j : ℕ) → T i j ≡ play_all S ms i j
  last k T played l i j =
      let done = ap (play_all T) (sym (drop_of_length-le ms l)) ∙ played.same in
      ap (λ (f : Sheet). f i j) done

-- ---- a grid that is played on as a sheet

pub sheet-able : (s : memory.Sheet) (g : Grid) (ms : List Move) → grid_of s ≡ g → AllPlayable (cell g) ms → AllPlayable (credit s) ms
sheet-able s g ms e p = subst (λ (S : Sheet). AllPlayable S ms) (ap cell (sym e) ∙ sym (credit-is s)) p

pub grid-plays : (s t : memory.Sheet) (g r : Grid) (ms : List Move) → grid_of s ≡ g → r ≡ grid_of t → Plays (credit s) ms (credit t)
    → Plays (cell g) ms (cell r)
grid-plays s t g r ms e f p =
    subst₂ (λ (S T : Sheet). Plays S ms T) (credit-is s ∙ ap cell e) (credit-is t ∙ ap cell (sym f)) p
