-- `pair::same_lists` meets its contract: counts, classes, supplies, balances and weights, one after the other.
use borrow.Author.Rules.{rules}
use mathlib.Core.List.{List}
use mathlib.Core.Path.{◌≡◌, sym, subst₂, ◌∙◌}
use mathlib.Core.Bool.{true≢false}
use Prim.Native.Nat.{ℕ}
use native.Mathlib.Omega.{arith}
use lib.ListN.{length}
use Rattle.pair.specs.Same.{SameUpTo}
use Rattle.pair.proofs.same_lists.Goals as goal

pub returns-then-seats-b : goal.returns-then-seats-b
returns-then-seats-b c = (λ e. absurd (true≢false (sym e)), λ h. absurd (c.if-seats-b.true h.seats))

pub returns-then-windows-b : goal.returns-then-windows-b
returns-then-windows-b c = (λ e. absurd (true≢false (sym e)), λ h. absurd (c.if-windows-b.true h.windows))

pub same-requires : goal.same-requires
same-requires c =
    let a : length c.args.a.classes ≡ 32 = search rules in
    let b : length c.args.b.classes ≡ 32 = search rules in
    (omega (arith, c.requires.0), omega (arith, c.requires.0))

pub returns-then-not-same : goal.returns-then-not-same
returns-then-not-same c = (
  λ e. absurd (true≢false (sym e)),
  λ h. absurd (true≢false (sym (c.same.ensures.1 h.classes) ∙ c.if-not-same.true)),
)

pub returns-then-not-same_row : goal.returns-then-not-same_row
returns-then-not-same_row c = (
  λ e. absurd (true≢false (sym e)),
  λ h. absurd (true≢false (sym (c.same_row.ensures.1 h.supplies) ∙ c.if-not-same_row.true)),
)

pub same-requires-2 : goal.same-requires-2
same-requires-2 c =
    let a : length c.balances-a_balances.result ≡ 32 = search rules in
    let b : length c.balances-b_balances.result ≡ 32 = search rules in
    (omega (arith, c.requires.0), omega (arith, c.requires.0))

-- numbers in force, by what the code has of them
module _ (n : ℕ) {xs ys us vs : List ℕ} (e : xs ≡ us) (f : ys ≡ vs) where
  into : SameUpTo n xs ys → SameUpTo n us vs
  into h = subst₂ (λ (x y : List ℕ). SameUpTo n x y) e f h

  from : SameUpTo n us vs → SameUpTo n xs ys
  from h = subst₂ (λ (x y : List ℕ). SameUpTo n x y) (sym e) (sym f) h

pub returns-then-not-same-2 : goal.returns-then-not-same-2
returns-then-not-same-2 c = (
  λ e. absurd (true≢false (sym e)),
  λ h. absurd (true≢false (sym (c.same-2.ensures.1
      (from _ c.balances-a_balances.ensures c.balances-b_balances.ensures h.balances)) ∙ c.if-not-same-2.true)),
)

pub returns : goal.returns
returns c =
    let a = c.weights-a_weights.ensures in
    let b = c.weights-b_weights.ensures in (
      λ e. record {
        seats = c.if-seats-b.false;
        windows = c.if-windows-b.false;
        classes = c.same.ensures.0 c.if-not-same.false;
        supplies = c.same_row.ensures.0 c.if-not-same_row.false;
        balances = into _ c.balances-a_balances.ensures c.balances-b_balances.ensures
            (c.same-2.ensures.0 c.if-not-same-2.false);
        weights = into 8 a b (c.same-3.ensures.0 e);
      },
      λ h. c.same-3.ensures.1 (from 8 a b h.weights),
    )
