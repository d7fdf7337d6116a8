-- `exchange::below` meets its contract.
use borrow.Author.Rules.{rules}
use mathlib.Core.Path.{◌≡◌}
use Prim.Native.Nat.{ℕ, ◌<◌}
use native.Mathlib.Omega.{arith}
use lib.ListN.{get_or}
use Rattle.reach.proofs.Collect.{collect-first, collect-in, collect-out}
use Rattle.exchange.proofs.below.Goals as goal
use Rattle.exchange.proofs.below.Goals.{then-a-w, else-a-w}

pub loop-w-init : goal.loop-w-init
loop-w-init c = (search rules, collect-first _)

pub loop-w-preserved : goal.loop-w-preserved
loop-w-preserved c =
    let at = c.loop-w in
    let P : ℕ → Type 0 = λ u. get_or c.args.a.now u 0 < get_or c.args.b.now u 0 in (
      search rules,
      elim c.if-a-w.branch [
        | then-a-w w ↦ rw w.set-is (collect-in P at.w at.set at.invariant.1 _ w.if-a-w.true w.insert-set.ensures)
        | else-a-w w ↦ rw w.set-is (collect-out P at.w at.set at.invariant.1 (λ p. omega (arith, p, w.if-a-w.false)))
      ],
    )

pub returns : goal.returns
returns c =
    let at = c.loop-w in
    let e : at.w ≡ c.args.windows = omega arith in
    rw e at at.invariant.1
