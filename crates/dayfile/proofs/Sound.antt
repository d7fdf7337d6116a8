-- What holds of a file that no line of the table turns away.
-- Assumes nothing.
use mathlib.Core.Bool.{Bool, true, false, not, cond}
use mathlib.Core.List.{List, [], ◌∷◌, ◌++◌}
use mathlib.Core.Logic.{⊎_elim}
use Rattle.std.specs.Prelude.{Option, None, Some}
use mathlib.Core.Path.{◌≡◌, refl, sym, ◌∙◌, ap}
use Prim.Native.Nat.{ℕ, zero, suc, ◌+◌, ◌*◌, ◌%◌, ◌≤◌, ◌<◌}
use native.Mathlib.Nat.{eq-or-lt_of_le}
use native.Mathlib.Omega.{arith}
use lib.Dec.{eqb}
use lib.ListN.{length, get_or}
use borrow.Author.Tests.{eqb-true, ltb-false, not-false}
use Rattle.model.specs.Lowest.{when, or_else, and_then, lowest}
use Rattle.model.proofs.Lowest.{lowest-none}
use Rattle.model.proofs.Tests.{and-true}
use Rattle.dayfile.specs.Layout.{field, count, contents_end, kind, start, size, ends, seats_in, windows_in, kind_at, start_at, size_at}
use Rattle.dayfile.specs.Layout.{entry_of}
use Rattle.dayfile.specs.Table.{first_of, within, offset, known, kind_right, size_right, grid_right, number_right, wrong_field, outside}
use Rattle.dayfile.specs.Table.{line1, line2, line3, line4, line5, line6, line7, line8, line9, line10, line11, line12}
use Rattle.dayfile.specs.Table.{wrong_fields, line18, line19, line20, contents_lines, length_lines, value_lines, option_lines, read_lines}
use Rattle.dayfile.proofs.Tests.{within_low, within-high, when-none}
use Rattle.dayfile.proofs.Search.{offset-none}
use Rattle.dayfile.proofs.Lines.{none-holds, none-parts}
use Rattle.dayfile.proofs.Rising.{InOrder, kind-one, kind-two, kind-three, kind-most, split-first, entry-is}

-- how many fields a body of kind k has: the kinds count from 0, which is none
abbrev pub body_fields : List ℕ → ℕ → ℕ
body_fields f k =
    let n : ℕ = seats_in f in
    let m : ℕ = windows_in f in get_or (0 ∷ n ∷ m ∷ n * m ∷ n * m ∷ 1 ∷ n ∷ 8 ∷ []) k 0

-- each of n fields from an offset on is right
abbrev pub FieldsRight : List ℕ → ℕ → ℕ → ℕ → ℕ → Bool → Type 0
FieldsRight f at n low high rising = (i : ℕ) → i < n → number_right low high rising (λ k. field f (at + 2 * k)) i ≡ true

-- each of n fields from an offset on is low to high
abbrev pub FieldsWithin : List ℕ → ℕ → ℕ → ℕ → ℕ → Type 0
FieldsWithin f at n low high = FieldsRight f at n low high false

pub record Sound (f : List ℕ) : Type 0 where
  pub order : InOrder f
  pub room : contents_end (count f) ≤ length f
  pub starts : (e : ℕ) → e < count f → start f e ≡ ends f e
  pub last : ends f (count f) ≡ length f
  pub seats_low : 2 ≤ size f 0
  pub seats_high : size f 0 ≤ 64
  pub windows_low : 2 ≤ size f 1
  pub windows_high : size f 1 ≤ 48
  pub sizes : (e : ℕ) → e < count f → size f e ≡ 2 * body_fields f (kind f e)
  pub classes : FieldsWithin f (start f 0) (seats_in f) 1 8
  pub supplies : FieldsWithin f (start f 1) (windows_in f) 0 4095
  pub caps : FieldsWithin f (start f 2) (seats_in f * windows_in f) 0 4095
  pub first : (e : ℕ) → entry_of f 5 ≡ Some e → FieldsWithin f (start f e) 1 1 (seats_in f)
  pub balances : (e : ℕ) → entry_of f 6 ≡ Some e → FieldsWithin f (start f e) (seats_in f) 0 50000
  pub weights : (e : ℕ) → entry_of f 7 ≡ Some e → FieldsRight f (start f e) 8 1 1000 true

-- ---- line by line

-- a test that must not fail
pub kept : (t : Bool) (p : ℕ) → when (not t) p ≡ None → t ≡ true
kept t p e = not-false t (when-none (not t) p e)

-- a test that must hold at each of n places
pub all_right : (at : ℕ → ℕ) (right : ℕ → Bool) (n : ℕ) → offset at (lowest n (λ i. not (right i))) ≡ None
    → (i : ℕ) → i < n → right i ≡ true
all_right at right n e i h =
    let wrong : ℕ → Bool = λ k. not (right k) in
    not-false (right i) (lowest-none n wrong (offset-none at (lowest n wrong) e) i h)

none-wrong : (f : List ℕ) (at n low high : ℕ) (rising : Bool) → wrong_field f at n low high rising ≡ None
    → FieldsRight f at n low high rising
unfolding wrong_field
none-wrong f at n low high rising e = all_right (λ i. at + 2 * i) (number_right low high rising (λ k. field f (at + 2 * k))) n e

pub none-outside : (f : List ℕ) (at n low high : ℕ) → outside f at n low high ≡ None → FieldsWithin f at n low high
none-outside f at n low high e = none-wrong f at n low high false e

cond-when : (t x y : Bool) → cond t x y ≡ true → t ≡ true → x ≡ true
cond-when true x y e h = e
cond-when false x y e h = let z : ◌≡◌ {A = ℕ} 0 1 = cc in absurd (omega arith)

pub record Even (low high n : ℕ) : Type 0 where
  pub least : low ≤ n
  pub most : n ≤ high
  pub even : n % 2 ≡ 0

pub even-size : (low high n p : ℕ) → when (not (size_right low high n)) p ≡ None → Even low high n
unfolding size_right
even-size low high n p e =
    let b = (and-true (within low high n) (eqb (n % 2) 0)).0 (kept (size_right low high n) p e) in
    record {
      least = within_low low high n b.0;
      most = within-high low high n b.0;
      even = eqb-true (n % 2) 0 b.1;
    }

grid-size : (f : List ℕ) (e : ℕ) → grid_right f e ≡ true → within 3 4 (kind f e) ≡ true → size f e ≡ 2 * (seats_in f * windows_in f)
unfolding grid_right
grid-size f e g k =
    let cells : ℕ = 2 * (seats_in f * windows_in f) in
    eqb-true (size f e) cells (cond-when (within 3 4 (kind f e)) (eqb (size f e) cells) true g k)

-- the first of two lines that do not hold, and the second
neither : (o p : Option ℕ) → or_else o p ≡ None → (o ≡ None) × (p ≡ None)
neither None p e = (refl, e)
neither (Some x) p e = absurd (let z : ◌≡◌ {A = ℕ} 0 1 = cc in omega arith)

-- the body of an entry has n fields, each of them right
pub record Listed (f : List ℕ) (n low high : ℕ) (rising : Bool) (e : ℕ) : Type 0 where
  pub long : size f e ≡ 2 * n
  pub fields : FieldsRight f (start f e) n low high rising

pub listed : (f : List ℕ) (n low high : ℕ) (rising : Bool) (e : ℕ) → wrong_fields f n low high rising e ≡ None
    → Listed f n low high rising e
unfolding wrong_fields
listed f n low high rising e h =
    let both = neither _ _ h in
    record {
      long = eqb-true (size f e) (2 * n) (kept (eqb (size f e) (2 * n)) (size_at e) both.0);
      fields = none-wrong f (start f e) n low high rising both.1;
    }

-- the body of a kind that may be missing, whose line does not hold
listed_at : (f : List ℕ) (k n low high : ℕ) (rising : Bool) → and_then (entry_of f k) (wrong_fields f n low high rising) ≡ None
    → (e : ℕ) → entry_of f k ≡ Some e → Listed f n low high rising e
listed_at f k n low high rising h e q =
    listed f n low high rising e (ap (λ (r : Option ℕ). and_then r (wrong_fields f n low high rising)) (sym q) ∙ h)

-- ---- the length of each body, by its kind: one step for each kind from 3 on

module _ (f : List ℕ) (o : InOrder f) where
  -- bodies of this kind
  abbrev SizedAt : ℕ → Type 0
  SizedAt k = (e : ℕ) → e < count f → kind f e ≡ k → size f e ≡ 2 * body_fields f k

  -- bodies of this kind and of those after it
  abbrev SizedFrom : ℕ → Type 0
  SizedFrom k = (e : ℕ) → e < count f → k ≤ kind f e → size f e ≡ 2 * body_fields f (kind f e)

  sized-last : SizedFrom (suc known)
  sized-last e l h = let m = kind-most f o e l in absurd (omega arith)

  sized-step : (k : ℕ) → SizedAt k → SizedFrom (suc k) → SizedFrom k
  sized-step k here after e l h =
      ⊎_elim (λ q. here e l (sym q) ∙ ap (λ (j : ℕ). 2 * body_fields f j) q) (λ q. after e l q) (eq-or-lt_of_le h)

  sized-all : size f 0 ≡ 2 * seats_in f → size f 1 ≡ 2 * windows_in f → SizedFrom 3
      → (e : ℕ) → e < count f → size f e ≡ 2 * body_fields f (kind f e)
  sized-all one two after zero l = one ∙ ap (λ (k : ℕ). 2 * body_fields f k) (sym (kind-one f o))
  sized-all one two after (suc zero) l = two ∙ ap (λ (k : ℕ). 2 * body_fields f k) (sym (kind-two f o))
  sized-all one two after (suc (suc zero)) l = after 2 l (let k = kind-three f o in omega arith)
  sized-all one two after (suc (suc (suc e))) l =
      let e' : ℕ = suc (suc (suc e)) in
      after e' l (let k = (split-first f o).above e' (omega arith) l in omega arith)

module _ (f : List ℕ) (free : first_of (read_lines f) ≡ None) where
  parts : (first_of (contents_lines f) ≡ None) × (first_of (length_lines f) ≡ None) × (first_of (value_lines f) ≡ None)
      × (first_of (option_lines f) ≡ None)
  unfolding read_lines
  parts =
      let a = none-parts (contents_lines f) (length_lines f ++ (value_lines f ++ option_lines f)) free in
      let b = none-parts (length_lines f) (value_lines f ++ option_lines f) a.1 in
      let c = none-parts (value_lines f) (option_lines f) b.1 in (a.0, b.0, c.0, c.1)

  pub sound : Sound f
  unfolding contents_lines length_lines value_lines option_lines line1 line2 line3 line4 line5 line6 line7 line8 line9 line10 line11 line12
      line18 line19 line20
  sound =
      let n = none-holds (contents_lines f) parts.0 in
      let l = none-holds (length_lines f) parts.1 in
      let v = none-holds (value_lines f) parts.2 in
      let w = none-holds (option_lines f) parts.3 in
      let two = kept (within 3 known (count f)) 0 n.1.0 in
      let seven = even-size 2 64 (size f 0) (size_at 0) l.0 in
      let eight = even-size 2 48 (size f 1) (size_at 1) l.1.0 in
      let start_right : ℕ → Bool = λ e. eqb (start f e) (ends f e) in
      let o : InOrder f =
      record { many = within_low 3 known (count f) two; right = all_right kind_at (kind_right f) (count f) n.1.1.1.0 } in
      let ev7 = seven.even in
      let ev8 = eight.even in
      let nine : (k : ℕ) → within 3 4 k ≡ true → (e : ℕ) → e < count f → kind f e ≡ k → size f e ≡ 2 * (seats_in f * windows_in f) =
      λ k g e h q. grid-size f e (all_right size_at (grid_right f) (count f) l.1.1.0 e h) (ap (within 3 4) q ∙ g) in
      let seat = listed_at f 5 1 1 (seats_in f) false w.0 in
      let one : (e : ℕ) → e < count f → kind f e ≡ 5 → size f e ≡ 2 * 1 =
      λ e h q. (seat e (entry-is f o e 5 (omega arith) h q)).long in
      let carried = listed_at f 6 (seats_in f) 0 50000 false w.1.0 in
      let each : (e : ℕ) → e < count f → kind f e ≡ 6 → size f e ≡ 2 * seats_in f =
      λ e h q. (carried e (entry-is f o e 6 (omega arith) h q)).long in
      let own = listed_at f 7 8 1 1000 true w.1.1.0 in
      let table : (e : ℕ) → e < count f → kind f e ≡ 7 → size f e ≡ 2 * 8 =
      λ e h q. (own e (entry-is f o e 7 (omega arith) h q)).long in
      record {
        order = o;
        room = ltb-false (length f) (contents_end (count f)) (when-none _ (length f) n.1.1.0);
        starts = λ e h. eqb-true (start f e) (ends f e) (all_right start_at start_right (count f) n.1.1.1.1.0 e h);
        last = eqb-true (ends f (count f)) (length f) (kept _ (length f) n.1.1.1.1.1.0);
        seats_low = seven.least;
        seats_high = seven.most;
        windows_low = eight.least;
        windows_high = eight.most;
        sizes = sized-all f o (omega arith) (omega arith)
            (sized-step f o 3 (nine 3 refl) (sized-step f o 4 (nine 4 refl)
            (sized-step f o 5 one (sized-step f o 6 each (sized-step f o 7 table (sized-last f o))))));
        classes = none-outside f (start f 0) (seats_in f) 1 8 v.0;
        supplies = none-outside f (start f 1) (windows_in f) 0 4095 v.1.0;
        caps = none-outside f (start f 2) (seats_in f * windows_in f) 0 4095 v.1.1.0;
        first = λ e q. (seat e q).fields;
        balances = λ e q. (carried e q).fields;
        weights = λ e q. (own e q).fields;
      }
