-- The parts that may be missing: one step for each kind, whatever the others are. Their kinds rise, and where a kind's entry lies in the
-- file of some parts.
-- Assumes nothing.
use mathlib.Core.List.{List, [], ◌∷◌, ◌++◌}
use Rattle.std.specs.Prelude.{Option, None, Some}
use mathlib.Core.Path.{◌≡◌, sym, ◌∙◌, ap, subst}
use Prim.Native.Nat.{ℕ, zero, suc, ◌+◌, ◌≤◌, ◌<◌}
use native.Mathlib.Nat.{not-suc-le-zero, le_of_suc-le-suc}
use native.Mathlib.Omega.{arith}
use lib.ListN.{length}
use Rattle.dayfile.specs.Layout.{entries_in, count, kind, entry_of}
use Rattle.dayfile.specs.File.{Part, part, opt_part, assemble}
use Rattle.dayfile.specs.Table.{known}
use Rattle.dayfile.proofs.Container.{nth, before, before-next, count-is, kind_is}
use Rattle.dayfile.proofs.Rising.{InOrder, Split, hit, split-hit, miss, split-miss}

-- ---- the kinds rise from lo on, and all are known

abbrev pub Above : ℕ → List Part → Type 0
Above lo [] = Unit {0}
Above lo (q ∷ qs) = (lo ≤ q.sort) × (q.sort ≤ known) × Above (suc q.sort) qs

above-less : (lo k : ℕ) (qs : List Part) → lo ≤ k → Above k qs → Above lo qs
above-less lo k [] h a = tt
above-less lo k (q ∷ qs) h a = ((let x = a.0 in omega arith), a.1, a.2)

pub above-opt : (k : ℕ) (o : Option (List ℕ)) (qs : List Part) → k ≤ known → Above (suc k) qs → Above k (opt_part k o ++ qs)
unfolding opt_part
above-opt k None qs h a = above-less k (suc k) qs (omega arith) a
above-opt k (Some xs) qs h a = (omega arith, h, a)

-- each kind is above the one before it
pub above-next : (q : Part) (qs : List Part) → Above (suc q.sort) qs → (i : ℕ) → i < length qs
    → ((nth (q ∷ qs) i).sort + 1 ≤ (nth qs i).sort) × ((nth qs i).sort ≤ known)
above-next q [] a i h = absurd (not-suc-le-zero h)
above-next q (p ∷ qs) a zero h = ((let x = a.0 in omega arith), a.1)
above-next q (p ∷ qs) a (suc i) h = above-next p qs a.2 i (le_of_suc-le-suc h)

-- ---- what holds of each part

abbrev pub Each : (Part → Type 0) → List Part → Type 0
Each P [] = Unit {0}
Each P (q ∷ qs) = P q × Each P qs

pub each-nth : (P : Part → Type 0) (qs : List Part) → Each P qs → (i : ℕ) → i < length qs → P (nth qs i)
each-nth P [] g i h = absurd (not-suc-le-zero h)
each-nth P (q ∷ qs) g zero h = g.0
each-nth P (q ∷ qs) g (suc i) h = each-nth P qs g.1 i (le_of_suc-le-suc h)

-- what holds of a body that may be missing
abbrev pub IfThere : (List ℕ → Type 0) → Option (List ℕ) → Type 0
IfThere P None = Unit {0}
IfThere P (Some xs) = P xs

pub each-opt : (P : Part → Type 0) (k : ℕ) (o : Option (List ℕ)) (qs : List Part)
    → IfThere (λ xs. P (part k xs)) o → Each P qs → Each P (opt_part k o ++ qs)
unfolding opt_part
each-opt P k None qs h g = g
each-opt P k (Some xs) qs h g = (h, g)

pub few-opt : (k : ℕ) (o : Option (List ℕ)) (qs : List Part) → length (opt_part k o ++ qs) ≤ suc (length qs)
unfolding opt_part
few-opt k None qs = omega arith
few-opt k (Some xs) qs = omega arith

-- the number of entries and of fields of a part that may be missing
abbrev pub entry_if : Option (List ℕ) → ℕ
entry_if None = 0
entry_if (Some xs) = 1

abbrev pub length_if : Option (List ℕ) → ℕ
length_if None = 0
length_if (Some xs) = length xs

-- ---- where a kind's entry lies in the file of some parts

-- an entry with the body, k fields behind the first one's start, or neither
abbrev pub BodyAt : List Part → ℕ → Option ℕ → Option (List ℕ) → Type 0
BodyAt ps k None None = Unit {0}
BodyAt ps k None (Some xs) = ⊥
BodyAt ps k (Some e) None = ⊥
BodyAt ps k (Some e) (Some xs) = (e < length ps) × ((nth ps e).body ≡ xs) × (before ps e ≡ k)

module _ (first : ℕ) (ps : List Part) (told : entries_in first ≡ length ps) (order : InOrder (assemble first ps)) where
  abbrev file : List ℕ
  file = assemble first ps

  -- from entry e on the parts are qs, and the bodies before them have k fields
  pub record Tail (e k : ℕ) (qs : List Part) : Type 0 where
    pub long : length ps ≡ e + length qs
    pub same : (i : ℕ) → nth ps (e + i) ≡ nth qs i
    pub ahead : before ps e ≡ k

  -- the entry of kind lo is found, and the kinds after it lie from entry `next` on
  pub record Looked (lo k : ℕ) (o : Option (List ℕ)) (qs : List Part) : Type 0 where
    pub body : BodyAt ps k (entry_of (assemble first ps) lo) o
    pub next : ℕ
    pub split : Split (assemble first ps) order next (suc lo)
    pub tail : Tail next (k + length_if o) qs

  head-is : (e k : ℕ) (q : Part) (qs : List Part) → Tail e k (q ∷ qs) → nth ps e ≡ q
  head-is e k q qs t = ap (nth ps) {x = e} {y = e + 0} (omega arith) ∙ t.same 0

  rest-is : (e k : ℕ) (q : Part) (qs : List Part) → Tail e k (q ∷ qs) → Tail (suc e) (k + length q.body) qs
  rest-is e k q qs t =
      let x = t.long in
      let here = ap (λ (p : Part). length p.body) (head-is e k q qs t) in
      record {
        long = omega arith;
        same = λ i. ap (nth ps) {x = suc e + i} {y = e + suc i} (omega arith) ∙ t.same (suc i);
        ahead = omega (arith, before-next ps e (omega arith), t.ahead);
      }

  missing : (e lo k : ℕ) (qs : List Part) → Split (assemble first ps) order e lo → Tail e k qs
      → (e < count (assemble first ps) → kind (assemble first ps) e ≡ lo → ⊥) → Looked lo k None qs
  missing e lo k qs s t n =
      record {
        body = subst (λ (r : Option ℕ). BodyAt ps k r None) (sym (miss file order e lo s n)) tt;
        next = e;
        split = split-miss file order e lo s n;
        tail = record { long = t.long; same = t.same; ahead = omega (arith, t.ahead) };
      }

  pub look : (e lo k : ℕ) (o : Option (List ℕ)) (qs : List Part)
      → Split (assemble first ps) order e lo → Tail e k (opt_part lo o ++ qs) → Above (suc lo) qs → Looked lo k o qs
  unfolding opt_part
  look e lo k (Some xs) qs s t a =
      let c = count-is first ps told in
      let x = t.long in
      let l : e < length ps = omega arith in
      let here : nth ps e ≡ part lo xs = head-is e k (part lo xs) qs t in
      let q : kind file e ≡ lo = kind_is first ps told e l ∙ ap (λ (p : Part). p.sort) here in
      let l' : e < count file = omega arith in
      record {
        body =
            subst (λ (r : Option ℕ). BodyAt ps k r (Some xs)) (sym (hit file order e lo s l' q))
            (l, ap (λ (p : Part). p.body) here, t.ahead);
        next = suc e;
        split = split-hit file order e lo s l' q;
        tail = rest-is e k (part lo xs) qs t;
      }
  look e lo k None [] s t a =
      let c = count-is first ps told in missing e lo k [] s t (λ l q. let x = t.long in omega arith)
  look e lo k None (p ∷ qs) s t a =
      let c = count-is first ps told in
      missing e lo k (p ∷ qs) s t (λ l q.
      let y = kind_is first ps told e (omega arith) in
      let h = ap (λ (x : Part). x.sort) (head-is e k p qs t) in let b = a.0 in omega arith)
