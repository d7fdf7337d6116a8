-- `leximin::is_higher` meets its contract. Up to place i the two lists are equal.
use mathlib.Core.Path.{refl, sym}
use mathlib.Core.Bool.{true≢false}
use native.Mathlib.Omega.{arith}
use Rattle.lists.proofs.Alls.{up_to}
use Rattle.leximin.specs.Levels.{list_in}
use Rattle.leximin.proofs.Orders.{below, not-below, higher-at, lower-at, even-not-higher}
use Rattle.leximin.proofs.is_higher.Goals as goal

pub loop-i-init : goal.loop-i-init
loop-i-init c k l = absurd (omega arith)

pub is_below-requires : goal.is_below-requires
is_below-requires c =
    let here = c.loop-i-test.true in
    let pre = c.requires.1 in
    (pre.0 _ here, pre.1 _ here)

pub returns-then-is_below : goal.returns-then-is_below
unfolding list_in
returns-then-is_below c = (
  λ e. higher-at _ _ _ _ c.loop-i.invariant c.loop-i-test.true (below _ _ c.is_below.ensures c.if-is_below.true),
  λ h. refl,
)

pub is_below-requires-in-loop-i : goal.is_below-requires-in-loop-i
is_below-requires-in-loop-i c =
    let pre = c.requires.1 in
    (pre.1 _ c.loop-i-test.true, pre.0 _ c.loop-i-test.true)

pub returns-then-is_below-2 : goal.returns-then-is_below-2
unfolding list_in
returns-then-is_below-2 c = (
  λ e. absurd (true≢false (sym e)),
  λ h. absurd (lower-at _ _ _ _ c.loop-i.invariant c.loop-i-test.true
      (below _ _ c.is_below-in-loop-i.ensures c.if-is_below-2.true) h),
)

pub loop-i-preserved : goal.loop-i-preserved
loop-i-preserved c =
    up_to c.loop-i.invariant
    (not-below _ _ c.is_below-in-loop-i.ensures c.if-is_below-2.false, not-below _ _ c.is_below.ensures c.if-is_below.false)

pub returns : goal.returns
unfolding list_in
returns c = (
  λ e. absurd (true≢false (sym e)),
  λ h. absurd (even-not-higher _ _ _ (λ k l. c.loop-i.invariant k (omega (arith, c.loop-i-test.false))) h),
)
