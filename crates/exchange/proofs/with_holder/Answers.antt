-- `exchange::with_holder` meets its contract.
use borrow.Author.Rules.{rules}
use mathlib.Core.Path.{◌≡◌}
use native.Mathlib.Omega.{arith}
use lib.ListN.{length-set}
use Rattle.exchange.proofs.Drawing.{added-first, added-in, added_out}
use Rattle.exchange.proofs.with_holder.Goals as goal
use Rattle.exchange.proofs.with_holder.Goals.{then-cells-w-gt0, else-cells-w-gt0}

pub loop-w-init : goal.loop-w-init
loop-w-init c = (search rules, (search rules, added-first c.args.holders c.args.cells.now c.args.seat))

pub loop-w-preserved : goal.loop-w-preserved
loop-w-preserved c =
    let at = c.loop-w in
    let a = c.args in
    let long = at.invariant.1.0 in
    let has = added-in a.holders a.cells.now a.seat at.w at.all at.invariant.1.1 in
    let has-not = added_out a.holders a.cells.now a.seat at.w at.all at.invariant.1.1 in
    elim c.if-cells-w-gt0.branch [
      | then-cells-w-gt0 w ↦ rw w.all-is
          (search rules, (simp length-set long, has _ (omega (arith, long)) w.if-cells-w-gt0.true w.insert.ensures))
      | else-cells-w-gt0 w ↦ rw w.all-is (search rules, (long, has-not (λ p. omega (arith, p, w.if-cells-w-gt0.false))))
    ]

pub returns : goal.returns
returns c =
    let at = c.loop-w in
    let e : at.w ≡ c.args.windows = omega arith in
    rw e at at.invariant.1.1
