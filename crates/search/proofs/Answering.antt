-- What the search finds, from the first pairs of both kinds. Assumes nothing.
use mathlib.Core.Path.{◌≡◌, sym, subst⁻¹, subst₂}
use mathlib.Core.List.{List}
use Prim.Native.Nat.{ℕ}
use Rattle.std.specs.Prelude.{Option, None, Some, MatchOption}
use Rattle.reach.specs.declared.Graph.{Graph}
use Rattle.paths.specs.declared.Path.{Path}
use Rattle.paths.specs.Paths.{Nearest}
use Rattle.receiver.specs.declared.Kind.{Kind}
use Rattle.receiver.specs.declared.Kind.TheVariants.{Improving, WronglyTied}
use Rattle.receiver.specs.declared.Score.{Score}
use Rattle.receiver.specs.Donors.{NoDonor}
use Rattle.search.specs.declared.Pair.{Pair}
use Rattle.search.specs.Steps.{FirstPair, FirstPath, FirstOf, Found}

module _ (scores : List Score) (graph : Graph) where
  pub first-path : (kind : Kind) (g l : ℕ) (x : Path) → FirstPair kind scores graph g l → Nearest graph g l x →
      FirstPath kind scores graph x
  first-path kind g l x f near =
      subst₂ (λ (i k : ℕ). FirstPair kind scores graph i k × Nearest graph i k x) (sym near.receiver_is) (sym near.donor_is) (f, near)

  -- by its kind, what a pair is that the search finds
  abbrev pub PairOf : Kind → ℕ → ℕ → Type 0
  PairOf Improving g l = FirstPair Improving scores graph g l
  PairOf WronglyTied g l = NoDonor Improving scores graph × FirstPair WronglyTied scores graph g l

  -- it is the first pair of its kind
  pub is-first : (kind : Kind) (g l : ℕ) → PairOf kind g l → FirstPair kind scores graph g l
  is-first Improving g l f = f
  is-first WronglyTied g l f = f.1

  -- by a shortest path it is an exchange that the search finds
  pub on-path : (kind : Kind) (g l : ℕ) (x : Path) → PairOf kind g l → Nearest graph g l x → Found kind scores graph x
  on-path Improving g l x f near = first-path Improving g l x f near
  on-path WronglyTied g l x f near = (f.0, first-path WronglyTied g l x f.1 near)

  -- a pair, or that there is none of either kind
  abbrev pub Pairs : Option Pair → Type 0
  Pairs None = NoDonor Improving scores graph × NoDonor WronglyTied scores graph
  Pairs (Some p) = PairOf p.kind p.receiver p.donor

  of-kind : (kind : Kind) (p : Pair) → p.kind ≡ kind → PairOf kind p.receiver p.donor → Pairs (Some p)
  of-kind kind p e f = subst⁻¹ (λ (k : Kind). PairOf k p.receiver p.donor) e f

  module _ (found : Option Pair) (Second : Type 0)
      (second : Second → MatchOption found (NoDonor WronglyTied scores graph) (FirstOf WronglyTied scores graph)) where
    -- the first of the first kind; where there is none, what is found is the first of the second
    pub one-or-other : (first : Option Pair)
        → MatchOption first (NoDonor Improving scores graph) (FirstOf Improving scores graph)
        → MatchOption first Second (λ x. found ≡ Some x) → Pairs found
    one-or-other (Some x) h e = subst⁻¹ Pairs e (of-kind Improving x h.0 h.1)
    one-or-other None none p = go found (second p)
      where
        go : (o : Option Pair) → MatchOption o (NoDonor WronglyTied scores graph) (FirstOf WronglyTied scores graph) → Pairs o
        go None also = (none, also)
        go (Some x) h = of-kind WronglyTied x h.0 (none, h.1)
